-- What a diagram's printed lines spell: the diagram, with the places of these lines.
use Rattle.std.proofs.Common.{◌≡◌, ℕ, ◌+◌, suc, List, [], ◌∷◌, ◌++◌, length, map, All, codes, refl, ap, subst, ◌∙◌, arith}
use Rattle.std.specs.List.{flat_map}
use Rattle.std.proofs.lemmas.List.Elements.{All-nil, All-cons, All-head, All-tail}
use Rattle.nego_base.specs.LineGrammar.{IsNameWord}
use Rattle.nego_base.specs.declared.line.Word.{Word}
use Rattle.nego_base.specs.declared.line.Line.{Line}
use Rattle.nego_base.specs.Printed.{printed_line}
use Rattle.nego_base.specs.Scan.{line_at}
use Rattle.nego_base.proofs.WordLaws.{texts_at}
use Rattle.nego_base.proofs.PrintedLaws.{words_printed, numbered}
use Rattle.nego_reader.specs.declared.parsed.Parsed.{Parsed}
use Rattle.nego_reader.specs.declared.parsed.PAtom.{PAtom}
use Rattle.nego_reader.specs.declared.parsed.POut.{POut}
use Rattle.nego_reader.specs.Content.{texts, agent_content, case_content, next_content, out_content, atom_content, content_of}
use Rattle.nego_reader.specs.Rows.{Row, HeaderRow, AgentRow, AtomRow, OutRow, CaseRow, NextRow, FirstRow, LastRow, EndRow, out_rows, atom_rows, rows_of}
use Rattle.nego_reader.specs.Spelling.{Each, SpellsLine, SpellsDiagram}
use Rattle.nego_reader.specs.Printing.{row_words}
use Rattle.nego_reader.specs.Printable.{IsRow}
use Rattle.nego_reader.proofs.PrintableRows.{row_printable}
use Rattle.nego_reader.proofs.PlacedRows.{header_at, end_at, agent_at, named_at, one_at, next_at, case_at}

-- a row's printed line, with its number
abbrev row_line : ℕ → Row → Line
row_line n row = line_at n (printed_line (row_words row))

-- the printed lines of rows, of which the first has this number
abbrev pub row_lines : ℕ → List Row → List Line
row_lines n rows = numbered n (map row_words rows)

line_words : (n : ℕ) (row : Row) → IsRow row → texts (row_line n row).words ≡ row_words row
line_words n row h = texts_at n 1 (printed_line (row_words row)) ∙ words_printed (row_words row) (row_printable row h)

-- ---- one piece after the other

all_left : (rows more : List Row) → All IsRow (rows ++ more) → All IsRow rows
all_left [] more h = All-nil IsRow
all_left (r ∷ rs) more h = All-cons IsRow r rs (All-head IsRow r (rs ++ more) h) (all_left rs more (All-tail IsRow r (rs ++ more) h))

all_right : (rows more : List Row) → All IsRow (rows ++ more) → All IsRow more
all_right [] more h = h
all_right (r ∷ rs) more h = all_right rs more (All-tail IsRow r (rs ++ more) h)

abbrev SpellsRows : ℕ → List Row → List Row → Type 0
SpellsRows n rows rows' = Each SpellsLine (row_lines n rows) rows'

joined : (n : ℕ) (rows more rows' more' : List Row) → SpellsRows n rows rows' → SpellsRows (n + length rows) more more' → SpellsRows n (rows ++ more) (rows' ++ more')
joined n [] more [] more' p q =
    let none : n + 0 ≡ n = omega arith in
    subst (λ (k : ℕ). SpellsRows k more more') none q
joined n [] more (r ∷ rs) more' p q = absurd p
joined n (r ∷ rs) more [] more' p q = absurd p
joined n (r ∷ rs) more (r' ∷ rs') more' p q =
    let moved : n + suc (length rs) ≡ n + 1 + length rs = omega arith in
    (p.0, joined (n + 1) rs more rs' more' p.1 (subst (λ (k : ℕ). SpellsRows k more more') moved q))

-- a value of this content whose lines these are
abbrev Placed : {X C : Type 0} → (X → List Row) → (X → C) → ℕ → X → Type 0
Placed {X} {C} rows content n x = (x' : X) × SpellsRows n (rows x) (rows x') × (content x' ≡ content x)

module _ {X C : Type 0} (content : X → C) where
  both : (x x' : X) (xs xs' : List X) → content x' ≡ content x → map content xs' ≡ map content xs → map content (x' ∷ xs') ≡ map content (x ∷ xs)
  both x x' xs xs' p q = ap (λ (c : C). c ∷ map content xs') p ∙ ap (λ (cs : List C). content x ∷ cs) q

  -- items that have one line each
  items : (row : X → Row) → ((line : Line) (x : X) → IsRow (row x) → texts line.words ≡ row_words (row x) → (x' : X) × SpellsLine line (row x') × (content x' ≡ content x)) →
      (n : ℕ) (xs : List X) → All IsRow (map row xs) → Placed (map row) (map content) n xs
  items row one n [] h = ([], tt, refl)
  items row one n (x ∷ xs) h =
      let is : IsRow (row x) = All-head IsRow (row x) (map row xs) h in
      let first = one (row_line n (row x)) x is (line_words n (row x) is) in
      let more = items row one (n + 1) xs (All-tail IsRow (row x) (map row xs) h) in
      (first.0 ∷ more.0, (first.1, more.1), both x first.0 xs more.0 first.2 more.2)

  -- pieces that have some lines each
  pieces : (rows : X → List Row) → ((n : ℕ) (x : X) → All IsRow (rows x) → Placed rows content n x) → (n : ℕ) (xs : List X) → All IsRow (flat_map rows xs) → Placed (flat_map rows) (map content) n xs
  pieces rows one n [] h = ([], tt, refl)
  pieces rows one n (x ∷ xs) h =
      let first = one n x (all_left (rows x) (flat_map rows xs) h) in
      let more = pieces rows one (n + length (rows x)) xs (all_right (rows x) (flat_map rows xs) h) in (
        first.0 ∷ more.0,
        joined n (rows x) (flat_map rows xs) (rows first.0) (flat_map rows more.0) first.1 more.1,
        both x first.0 xs more.0 first.2 more.2,
      )

-- ---- the pieces of a diagram

out_placed : (n : ℕ) (o : POut) → All IsRow (out_rows o) → Placed out_rows out_content n o
unfolding out_rows
out_placed n o h =
    let cases = map CaseRow o.cases in
    let nexts = map NextRow o.nexts in
    let is : IsNameWord o.name = All-head IsRow (OutRow o.name) (cases ++ nexts) h in
    let rest = All-tail IsRow (OutRow o.name) (cases ++ nexts) h in
    let name = one_at (row_line n (OutRow o.name)) (codes "out") o.name is (line_words n (OutRow o.name) is) in
    let cases' = items case_content CaseRow case_at (n + 1) o.cases (all_left cases nexts rest) in
    let nexts' = items next_content NextRow next_at (n + 1 + length cases) o.nexts (all_right cases nexts rest) in (
      record { name = name.name'; cases = cases'.0; nexts = nexts'.0 },
      ((name.begins, name.named), joined (n + 1) cases nexts (map CaseRow cases'.0) (map NextRow nexts'.0) cases'.1 nexts'.1),
      rw (name.name_is, cases'.2, nexts'.2) refl,
    )

atom_placed : (n : ℕ) (a : PAtom) → All IsRow (atom_rows a) → Placed atom_rows atom_content n a
unfolding atom_rows
atom_placed n a h =
    let row = AtomRow a.name a.parties in
    let is : IsRow row = All-head IsRow row (flat_map out_rows a.outs) h in
    let name = named_at (row_line n row) (codes "atom") a.name a.parties is (line_words n row is) in
    let outs = pieces out_content out_rows out_placed (n + 1) a.outs (All-tail IsRow row (flat_map out_rows a.outs) h) in (
      record { name = name.name'; parties = name.names'; outs = outs.0 },
      ((name.begins, name.named), outs.1),
      rw (name.name_is, name.names_are, outs.2) refl,
    )

-- the last three lines
abbrev end_rows : Word → Word → List Row
end_rows first last = FirstRow first ∷ LastRow last ∷ EndRow ∷ []

-- names of the same texts that the last three lines give
record AreEnds (n : ℕ) (first last : Word) : Type 0 where
  pub first' : Word
  pub last' : Word
  pub spelled : SpellsRows n (end_rows first last) (end_rows first' last')
  pub first_is : first'.text ≡ first.text
  pub last_is : last'.text ≡ last.text

ends_placed : (n : ℕ) (first last : Word) → All IsRow (end_rows first last) → AreEnds n first last
ends_placed n first last h =
    let rest = All-tail IsRow (FirstRow first) (LastRow last ∷ EndRow ∷ []) h in
    let is : IsNameWord first = All-head IsRow (FirstRow first) (LastRow last ∷ EndRow ∷ []) h in
    let is' : IsNameWord last = All-head IsRow (LastRow last) (EndRow ∷ []) rest in
    let name = one_at (row_line n (FirstRow first)) (codes "first") first is (line_words n (FirstRow first) is) in
    let name' = one_at (row_line (n + 1) (LastRow last)) (codes "last") last is' (line_words (n + 1) (LastRow last) is') in
    record {
      first' = name.name';
      last' = name'.name';
      spelled = ((name.begins, name.named), ((name'.begins, name'.named), (end_at (row_line (n + 1 + 1) EndRow) (line_words (n + 1 + 1) EndRow tt), tt)));
      first_is = name.name_is;
      last_is = name'.name_is;
    }

pub diagram_placed : (p : Parsed) → All IsRow (rows_of p) → (q : Parsed) × SpellsDiagram (row_lines 1 (rows_of p)) q × (content_of q ≡ content_of p)
unfolding rows_of
diagram_placed p h =
    let agents = map AgentRow p.agents in
    let atoms = flat_map atom_rows p.atoms in
    let ends = end_rows p.first p.last in
    let rest = All-tail IsRow HeaderRow ((agents ++ atoms) ++ ends) h in
    let front = all_left (agents ++ atoms) ends rest in
    let agents' = items agent_content AgentRow agent_at 2 p.agents (all_left agents atoms front) in
    let atoms' = pieces atom_content atom_rows atom_placed (2 + length agents) p.atoms (all_right agents atoms front) in
    let ends' = ends_placed (2 + length (agents ++ atoms)) p.first p.last (all_right (agents ++ atoms) ends rest) in
    let front' = joined 2 agents atoms (map AgentRow agents'.0) (flat_map atom_rows atoms'.0) agents'.1 atoms'.1 in (
      record { agents = agents'.0; atoms = atoms'.0; first = ends'.first'; last = ends'.last' },
      (
        header_at (row_line 1 HeaderRow) (line_words 1 HeaderRow tt),
        joined 2 (agents ++ atoms) ends (map AgentRow agents'.0 ++ flat_map atom_rows atoms'.0) (end_rows ends'.first' ends'.last') front' ends'.spelled,
      ),
      rw (agents'.2, atoms'.2, ends'.first_is, ends'.last_is) refl,
    )
