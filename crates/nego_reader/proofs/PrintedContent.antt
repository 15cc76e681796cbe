-- A diagram is printed by its content alone, so that it has one printed form whatever its places.
use Rattle.std.proofs.Common.{◌≡◌, ℕ, List, [], ◌∷◌, ◌++◌, map, codes, decimal, refl, sym, ap, ◌∙◌}
use Rattle.std.specs.List.{flat_map}
use Rattle.std.proofs.lemmas.List.{map-append}
use Rattle.nego_base.specs.Printed.{printed}
use Rattle.nego_reader.specs.declared.parsed.Parsed.{Parsed}
use Rattle.nego_reader.specs.declared.parsed.PAtom.{PAtom}
use Rattle.nego_reader.specs.declared.parsed.POut.{POut}
use Rattle.nego_reader.specs.declared.parsed.PCase.{PCase}
use Rattle.nego_reader.specs.declared.parsed.PTest.{PTest}
use Rattle.nego_reader.specs.declared.parsed.PRight.{PRight}
use Rattle.nego_reader.specs.declared.parsed.PRight.TheVariants as rights
use Rattle.nego_reader.specs.declared.parsed.PSet.{PSet}
use Rattle.nego_reader.specs.declared.parsed.PTerm.{PTerm}
use Rattle.nego_reader.specs.declared.parsed.PTerm.TheVariants as terms
use Rattle.nego_reader.specs.Content.{AgentContent, AtomContent, OutContent, NextContent, CaseContent, TestContent, RightContent, Number, Name, SetContent, TermContent, AnyTerm, NumberTerm, PlusTerm, MinusTerm, Content, agent_content, atom_content, out_content, next_content, case_content, test_content, right_content, set_content, term_content, content_of}
use Rattle.nego_reader.specs.Rows.{Row, AgentRow, CaseRow, NextRow, FirstRow, LastRow, EndRow, out_rows, atom_rows, rows_of}
use Rattle.nego_reader.specs.Spelling.{op_text}
use Rattle.nego_reader.specs.Printing.{right_text, test_text, plus_text, term_text, set_text, row_words, printed_diagram}

-- ---- what is printed of each content

abbrev right_of : RightContent → List ℕ
right_of (Number n) = decimal n
right_of (Name name) = name

abbrev test_of : TestContent → List ℕ
test_of test = test.left ++ op_text test.op ++ right_of test.right

abbrev term_of : TermContent → List ℕ
term_of AnyTerm = codes "*"
term_of (NumberTerm n) = decimal n
term_of (PlusTerm name n) = plus_text name n
term_of (MinusTerm name n) = name ++ codes "-" ++ decimal n

abbrev set_of : SetContent → List ℕ
set_of set = set.agent ++ codes ":=" ++ term_of set.term

abbrev Words : Type 0
Words = List (List ℕ)

abbrev agent_words : AgentContent → Words
agent_words a = codes "agent" ∷ a.name ∷ decimal a.size ∷ []

abbrev case_words : CaseContent → Words
case_words c = codes "case" ∷ map test_of c.tests ++ codes ":" ∷ map set_of c.sets

abbrev next_words : NextContent → Words
next_words n = codes "next" ∷ n.atom ∷ n.agents

abbrev out_lines : OutContent → List Words
out_lines o = (codes "out" ∷ o.name ∷ []) ∷ (map case_words o.cases ++ map next_words o.nexts)

abbrev atom_lines : AtomContent → List Words
atom_lines a = (codes "atom" ∷ a.name ∷ a.parties) ∷ flat_map out_lines a.outs

abbrev lines_of : Content → List Words
lines_of c =
    (codes "nego" ∷ codes "1" ∷ []) ∷
    (map agent_words c.agents ++ flat_map atom_lines c.atoms ++ (codes "first" ∷ c.first ∷ []) ∷ (codes "last" ∷ c.last ∷ []) ∷ (codes "end" ∷ []) ∷ [])

-- ---- it is what is printed of the value

test_same : (test : PTest) → test_text test ≡ test_of (test_content test)
test_same test = ap (λ (t : List ℕ). test.left.text ++ op_text test.op ++ t) (right_same test.right)
  where
    right_same : (right : PRight) → right_text right ≡ right_of (right_content right)
    right_same (rights.Number n) = refl
    right_same (rights.Name name) = refl

set_same : (set : PSet) → set_text set ≡ set_of (set_content set)
set_same set = ap (λ (t : List ℕ). set.agent.text ++ codes ":=" ++ t) (term_same set.term)
  where
    term_same : (term : PTerm) → term_text term ≡ term_of (term_content term)
    term_same terms.Any = refl
    term_same (terms.Number n) = refl
    term_same (terms.Plus name n) = refl
    term_same (terms.Minus name n) = refl

module _ {X C Y : Type 0} (content : X → C) where
  items_same : (f : X → Y) (g : C → Y) → ((x : X) → f x ≡ g (content x)) → (xs : List X) → map f xs ≡ map g (map content xs)
  items_same f g same [] = refl
  items_same f g same (x ∷ xs) = ap (λ (y : Y). y ∷ map f xs) (same x) ∙ ap (λ (ys : List Y). g (content x) ∷ ys) (items_same f g same xs)

-- lines of one row each, and of several
module _ {X C : Type 0} (content : X → C) where
  rows_same : (row : X → Row) (words : C → Words) → ((x : X) → row_words (row x) ≡ words (content x)) → (xs : List X) → map row_words (map row xs) ≡ map words (map content xs)
  rows_same row words same [] = refl
  rows_same row words same (x ∷ xs) =
      ap (λ (w : Words). w ∷ map row_words (map row xs)) (same x) ∙ ap (λ (ws : List Words). words (content x) ∷ ws) (rows_same row words same xs)

  pieces_same : (rows : X → List Row) (lines : C → List Words) → ((x : X) → map row_words (rows x) ≡ lines (content x)) → (xs : List X) → map row_words (flat_map rows xs) ≡ flat_map lines (map content xs)
  pieces_same rows lines same [] = refl
  pieces_same rows lines same (x ∷ xs) =
      map-append row_words (rows x) (flat_map rows xs) ∙
      (ap (λ (ws : List Words). ws ++ map row_words (flat_map rows xs)) (same x) ∙ ap (λ (ws : List Words). lines (content x) ++ ws) (pieces_same rows lines same xs))

case_same : (c : PCase) → row_words (CaseRow c) ≡ case_words (case_content c)
case_same c = rw (items_same test_content test_text test_of test_same c.tests, items_same set_content set_text set_of set_same c.sets) refl

out_same : (o : POut) → map row_words (out_rows o) ≡ out_lines (out_content o)
unfolding out_rows
out_same o =
    ap (λ (ws : List Words). (codes "out" ∷ o.name.text ∷ []) ∷ ws)
    (map-append row_words (map CaseRow o.cases) (map NextRow o.nexts) ∙
    rw (rows_same case_content CaseRow case_words case_same o.cases, rows_same next_content NextRow next_words (λ n. refl) o.nexts) refl)

atom_same : (a : PAtom) → map row_words (atom_rows a) ≡ atom_lines (atom_content a)
unfolding atom_rows
atom_same a = ap (λ (ws : List Words). (codes "atom" ∷ a.name.text ∷ map (λ w. w.text) a.parties) ∷ ws) (pieces_same out_content out_rows out_lines out_same a.outs)

lines_same : (p : Parsed) → map row_words (rows_of p) ≡ lines_of (content_of p)
unfolding rows_of
lines_same p =
    let agents = map AgentRow p.agents in
    let atoms = flat_map atom_rows p.atoms in
    let ends = FirstRow p.first ∷ LastRow p.last ∷ EndRow ∷ [] in
    ap (λ (ws : List Words). (codes "nego" ∷ codes "1" ∷ []) ∷ ws)
    (map-append row_words (agents ++ atoms) ends ∙ (ap (λ (ws : List Words). ws ++ map row_words ends) (map-append row_words agents atoms) ∙
    rw (rows_same agent_content AgentRow agent_words (λ a. refl) p.agents, pieces_same atom_content atom_rows atom_lines atom_same p.atoms) refl))

pub printed_by_content : (p q : Parsed) → content_of p ≡ content_of q → printed_diagram p ≡ printed_diagram q
unfolding printed_diagram
printed_by_content p q h = ap printed (lines_same p ∙ (ap lines_of h ∙ sym (lines_same q)))
