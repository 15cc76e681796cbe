-- The printed text of a diagram is a part: its last line is the only end line.
use Rattle.std.proofs.Common.{◌≡◌, ◌∙◌, ℕ, false, eqb, List, [], ◌∷◌, ◌++◌, map, codes, decimal, refl, sym, ap, append_assoc}
use Rattle.std.specs.List.{All, flat_map, list_any}
use Rattle.std.proofs.lemmas.Bool.{or_from}
use Rattle.std.proofs.lemmas.List.{map-append}
use Rattle.std.proofs.lemmas.List.Elements.{All-nil, All-cons, All-append, All-map, All-head, All-tail}
use Rattle.nego_base.specs.Lines.{is_blank, is_line_end, lines}
use Rattle.nego_base.specs.Printed.{IsPrintable, printed, printed_line}
use Rattle.nego_base.proofs.PrintedLaws.{lines_printed}
use Rattle.nego_io.specs.Part.{is_end_line}
use Rattle.nego_io.specs.Laws.{IsClosedPart}
use Rattle.nego_io.proofs.EndLaws.{other_line}
use Rattle.nego_reader.specs.declared.parsed.Parsed.{Parsed}
use Rattle.nego_reader.specs.declared.parsed.PAtom.{PAtom}
use Rattle.nego_reader.specs.declared.parsed.POut.{POut}
use Rattle.nego_reader.specs.PrintedLines.{behind_blanks}
use Rattle.nego_reader.specs.Rows.{Row, HeaderRow, AgentRow, AtomRow, OutRow, CaseRow, NextRow, FirstRow, LastRow, EndRow, out_rows, atom_rows, rows_of}
use Rattle.nego_reader.specs.Content.{texts}
use Rattle.nego_reader.specs.Printing.{row_words, printed_diagram, set_text, test_text}
use Rattle.nego_reader.specs.Printable.{IsPrintableDiagram}
use Rattle.nego_reader.proofs.PutLines.{words_behind}
use Rattle.nego_reader.proofs.PrintableRows.{row_fits}

abbrev row_line : Row → List ℕ
row_line row = printed_line (row_words row) ++ 10 ∷ []

abbrev IsOther : Row → Type 0
IsOther row = is_end_line (row_line row) ≡ false

-- a line whose first word begins with another byte than `e`
other_word : (b : ℕ) (bs : List ℕ) (words : List (List ℕ)) → ((rest : List ℕ) → is_line_end (b ∷ rest) ≡ false) → is_blank b ≡ false → eqb b 101 ≡ false → is_end_line (printed_line ((b ∷ bs) ∷ words) ++ 10 ∷ []) ≡ false
other_word b bs words goes_on solid other =
    ap (λ line. is_end_line (line ++ 10 ∷ [])) (words_behind (b ∷ bs) words)
    ∙ other_line b ((bs ++ behind_blanks words) ++ 10 ∷ []) (goes_on ((bs ++ behind_blanks words) ++ 10 ∷ [])) solid other

-- ---- the rows of a diagram, but the last

cases_other : {X : Type 0} (row : X → Row) → ((x : X) → IsOther (row x)) → (xs : List X) → All IsOther (map row xs)
cases_other row each xs = All-map IsOther row xs (λ i x h. each _)

outs_other : (outs : List POut) → All IsOther (flat_map out_rows outs)
unfolding out_rows
outs_other [] = All-nil IsOther
outs_other (out ∷ outs) =
    All-append IsOther (out_rows out) (flat_map out_rows outs)
    (All-cons IsOther (OutRow out.name) (map CaseRow out.cases ++ map NextRow out.nexts) (other_word 111 (codes "ut") (out.name.text ∷ []) (λ rest. refl) refl refl)
    (All-append IsOther (map CaseRow out.cases) (map NextRow out.nexts)
    (cases_other CaseRow (λ c. other_word 99 (codes "ase") (map test_text c.tests ++ codes ":" ∷ map set_text c.sets) (λ rest. refl) refl refl) out.cases)
    (cases_other NextRow (λ n. other_word 110 (codes "ext") (n.atom.text ∷ texts n.agents) (λ rest. refl) refl refl) out.nexts)))
    (outs_other outs)

atoms_other : (atoms : List PAtom) → All IsOther (flat_map atom_rows atoms)
unfolding atom_rows
atoms_other [] = All-nil IsOther
atoms_other (atom ∷ atoms) =
    All-append IsOther (atom_rows atom) (flat_map atom_rows atoms)
    (All-cons IsOther (AtomRow atom.name atom.parties) (flat_map out_rows atom.outs) (other_word 97 (codes "tom") (atom.name.text ∷ texts atom.parties) (λ rest. refl) refl refl) (outs_other atom.outs))
    (atoms_other atoms)

abbrev front_rows : Parsed → List Row
front_rows p = HeaderRow ∷ ((map AgentRow p.agents ++ flat_map atom_rows p.atoms) ++ FirstRow p.first ∷ LastRow p.last ∷ [])

rows_split : (p : Parsed) → rows_of p ≡ front_rows p ++ EndRow ∷ []
unfolding rows_of
rows_split p = ap (λ rows. HeaderRow ∷ rows) (sym (append_assoc (map AgentRow p.agents ++ flat_map atom_rows p.atoms) (FirstRow p.first ∷ LastRow p.last ∷ []) (EndRow ∷ [])))

front_other : (p : Parsed) → All IsOther (front_rows p)
front_other p =
    All-cons IsOther HeaderRow _ refl
    (All-append IsOther (map AgentRow p.agents ++ flat_map atom_rows p.atoms) (FirstRow p.first ∷ LastRow p.last ∷ [])
    (All-append IsOther (map AgentRow p.agents) (flat_map atom_rows p.atoms) (cases_other AgentRow (λ a. other_word 97 (codes "gent") (a.name.text ∷ decimal a.size ∷ []) (λ rest. refl) refl refl) p.agents) (atoms_other p.atoms))
    (All-cons IsOther (FirstRow p.first) (LastRow p.last ∷ []) (other_word 102 (codes "irst") (p.first.text ∷ []) (λ rest. refl) refl refl)
    (All-cons IsOther (LastRow p.last) [] (other_word 108 (codes "ast") (p.last.text ∷ []) (λ rest. refl) refl refl) (All-nil IsOther))))

none_ends : (rows : List Row) → All IsOther rows → list_any is_end_line (map row_line rows) ≡ false
none_ends [] h = refl
none_ends (row ∷ rows) h = or_from _ _ (All-head IsOther row rows h) (none_ends rows (All-tail IsOther row rows h))

-- ---- its text

diagram_lines : (p : Parsed) → IsPrintableDiagram p → lines (printed_diagram p) ≡ map row_line (rows_of p)
unfolding printed_diagram
diagram_lines p h =
    lines_printed (map row_words (rows_of p)) (All-map IsPrintable row_words (rows_of p) (λ i x there. row_fits _ (h.rows i x there) (h.short i x there)))
    ∙ each_line (rows_of p)
  where
    each_line : (rows : List Row) → map (λ words. printed_line words ++ 10 ∷ []) (map row_words rows) ≡ map row_line rows
    each_line [] = refl
    each_line (row ∷ rows) = ap (λ ls. row_line row ∷ ls) (each_line rows)

pub diagram_closed : (p : Parsed) → IsPrintableDiagram p → IsClosedPart (printed_diagram p)
diagram_closed p h = record {
  front = map row_line (front_rows p);
  body = codes "end";
  split = diagram_lines p h ∙ (ap (map row_line) (rows_split p) ∙ map-append row_line (front_rows p) (EndRow ∷ []));
  none = none_ends (front_rows p) (front_other p);
  ends = refl;
}
