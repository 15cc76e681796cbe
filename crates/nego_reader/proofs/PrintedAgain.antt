-- The printed text of a diagram that can be printed spells it, and what a text spells can be printed.
use Rattle.std.proofs.Common.{◌≡◌, ℕ, ◌≤◌, List, [], ◌∷◌, length, map, All, Result, IfOk, sym, subst, arith}
use Rattle.std.proofs.lemmas.List.Elements.{All-nil, All-cons, All-head, All-tail, All-weaker}
use Rattle.std.proofs.lemmas.Result.{IfOk-weaker}
use Rattle.nego_base.specs.declared.line.Line.{Line}
use Rattle.nego_base.specs.Scan.{max_line, scanned}
use Rattle.nego_base.specs.Printed.{IsPrintable, ArePrintable, printed_line}
use Rattle.nego_base.proofs.ScanLaws.{IsInBounds, lines_in_bounds}
use Rattle.nego_base.proofs.PrintedLaws.{scan_fault_printed, scanned_printed}
use Rattle.nego_reader.specs.declared.parsed.Parsed.{Parsed}
use Rattle.nego_reader.specs.Content.{content_of}
use Rattle.nego_reader.specs.Rows.{Row, rows_of}
use Rattle.nego_reader.specs.Spelling.{Each, SpellsLine, SpellsDiagram, Spells}
use Rattle.nego_reader.specs.Printable.{IsRow, IsPrintableDiagram}
use Rattle.nego_reader.specs.Printing.{row_words, printed_diagram}
use Rattle.nego_reader.proofs.Spacing.{printed_line_fits, IsSpaced, lines_spaced}
use Rattle.nego_reader.proofs.SpelledRows.{row_is}
use Rattle.nego_reader.proofs.PrintableRows.{row_fits}
use Rattle.nego_reader.proofs.PlacedDiagram.{diagram_placed}

-- ---- what a text spells is printable

-- The row is one that lines spell, and its printed line is short enough.
record IsFit (row : Row) : Type 0 where
  pub is : IsRow row
  pub short : length (printed_line (row_words row)) ≤ max_line

row_fit : (line : Line) (row : Row) → SpellsLine line row → IsInBounds line → IsSpaced line → IsFit row
row_fit line row h bounds spaces =
    let spelled = row_is line row h in
    let printed = spelled.1 in
    let short = bounds.short in
    let room = spaces.room in
    record { is = spelled.0; short = printed_line_fits (row_words row) 1024 (omega arith) }

rows_fit : (lines : List Line) (rows : List Row) → Each SpellsLine lines rows → All IsInBounds lines → All IsSpaced lines → All IsFit rows
rows_fit [] [] h bounds spaces = All-nil IsFit
rows_fit [] (r ∷ rs) h bounds spaces = absurd h
rows_fit (l ∷ ls) [] h bounds spaces = absurd h
rows_fit (l ∷ ls) (r ∷ rs) h bounds spaces =
    All-cons IsFit r rs (row_fit l r h.0 (All-head IsInBounds l ls bounds) (All-head IsSpaced l ls spaces))
    (rows_fit ls rs h.1 (All-tail IsInBounds l ls bounds) (All-tail IsSpaced l ls spaces))

pub spelled_printable : (text : List ℕ) (p : Parsed) → Spells text p → IsPrintableDiagram p
spelled_printable text p h =
    let fit = rows_fit (scanned text) (rows_of p) h.lines (lines_in_bounds text h.scans) (lines_spaced text) in
    record { rows = All-weaker IsFit IsRow (λ r f. f.is) (rows_of p) fit; short = All-weaker IsFit (λ (r : Row). length (printed_line (row_words r)) ≤ max_line) (λ r f. f.short) (rows_of p) fit }

-- ---- what is printable is spelled by its printed text

abbrev pub Again : List ℕ → Parsed → Type 0
Again text p = (q : Parsed) × Spells text q × (content_of q ≡ content_of p)

rows_printable : (rows : List Row) → All IsRow rows → All (λ row. length (printed_line (row_words row)) ≤ max_line) rows → ArePrintable (map row_words rows)
rows_printable [] is short = All-nil IsPrintable
rows_printable (r ∷ rs) is short =
    let Short : Row → Type 0 = λ row. length (printed_line (row_words row)) ≤ max_line in
    All-cons IsPrintable (row_words r) (map row_words rs) (row_fits r (All-head IsRow r rs is) (All-head Short r rs short)) (rows_printable rs (All-tail IsRow r rs is) (All-tail Short r rs short))

pub printed_again : (p : Parsed) → IsPrintableDiagram p → Again (printed_diagram p) p
unfolding printed_diagram
printed_again p h =
    let rows = rows_of p in
    let printable : ArePrintable (map row_words rows) = rows_printable rows h.rows h.short in
    let placed = diagram_placed p h.rows in (
      placed.0,
      record {
        scans = scan_fault_printed (map row_words rows) printable;
        lines = subst (λ (ls : List Line). SpellsDiagram ls placed.0) (sym (scanned_printed (map row_words rows) printable)) placed.1;
      },
      placed.2,
    )

-- the same of a text that was printed, if it was
pub printed_ok : {E : Type 0} (result : Result (List ℕ) E) (p : Parsed) → IfOk result (λ t. t ≡ printed_diagram p) → IsPrintableDiagram p → IfOk result (λ t. Again t p)
printed_ok result p e h = IfOk-weaker result (λ t. t ≡ printed_diagram p) (λ t. Again t p) (λ t is. subst (λ (t : List ℕ). Again t p) (sym is) (printed_again p h)) e
