-- Values whose content says names and small numbers in short lines are printed on such lines.
use Rattle.std.proofs.Common.{◌≡◌, ◌∙◌, ℕ, ◌+◌, ◌*◌, ◌<◌, ◌≤◌, ◌==◌, List, [], ◌∷◌, ◌++◌, length, map, codes, decimal, IsTrue, ap, arith}
use Rattle.std.proofs.lemmas.Bool.{cond_both}
use Rattle.std.proofs.lemmas.Fmt.{length-decimal-le}
use Rattle.std.proofs.lemmas.List.{length-map, length-append}
use Rattle.std.proofs.lemmas.List.Elements.{All-nil, All-cons, All-append, All-map, All-weaker, All-head, All-tail}
use Rattle.std.proofs.lemmas.List.Concat.{length-flat_map}
use Rattle.std.proofs.lemmas.List.Sums.{sum_by-le}
use Rattle.std.specs.List.{All, flat_map}
use Rattle.nego_base.proofs.ListLaws.{All-unmap}
use Rattle.nego_base.specs.declared.line.Word.{Word}
use Rattle.nego_base.specs.LineGrammar.{IsNameWord}
use Rattle.nego_base.specs.Name.{is_name}
use Rattle.nego_base.specs.Printed.{printed_line}
use Rattle.nego_reader.specs.declared.parsed.Parsed.{Parsed}
use Rattle.nego_reader.specs.declared.parsed.PAgent.{PAgent}
use Rattle.nego_reader.specs.declared.parsed.PAtom.{PAtom}
use Rattle.nego_reader.specs.declared.parsed.POut.{POut}
use Rattle.nego_reader.specs.declared.parsed.PNext.{PNext}
use Rattle.nego_reader.specs.declared.parsed.PCase.{PCase}
use Rattle.nego_reader.specs.declared.parsed.PTest.{PTest}
use Rattle.nego_reader.specs.declared.parsed.PSet.{PSet}
use Rattle.nego_reader.specs.declared.parsed.PTerm.{PTerm}
use Rattle.nego_reader.specs.declared.parsed.PTerm.TheVariants as terms
use Rattle.nego_reader.specs.Content.{AtomContent, OutContent, NextContent, CaseContent, SetContent, TermContent, AnyTerm, NumberTerm, PlusTerm, MinusTerm, Content, agent_content, atom_content, out_content, next_content, case_content, test_content, set_content, term_content, content_of, texts}
use Rattle.nego_reader.specs.Rows.{Row, HeaderRow, AgentRow, AtomRow, OutRow, CaseRow, NextRow, FirstRow, LastRow, EndRow, out_rows, atom_rows, rows_of}
use Rattle.nego_reader.specs.Printing.{row_words, test_text, set_text, term_text}
use Rattle.nego_reader.specs.Printable.{IsTest, IsTerm, IsSet, IsRow, IsPrintableDiagram, FitsPart}
use Rattle.nego_reader.specs.PrintedLines.{line_text, row_texts}
use Rattle.nego_reader.proofs.PutLines.{diagram_printed}
use Rattle.nego_make.proofs.OutcomeKinds.{one}

-- the row may stand in a printed text, and its line has 20 bytes at most
pub record IsGood (row : Row) : Type 0 where
  pub fit : IsRow row
  pub short : length (printed_line (row_words row)) ≤ 20

abbrev pub IsNameText : List ℕ → Type 0
IsNameText bytes = IsTrue (is_name bytes)

-- what is assigned is 0, or the value of an agent with a short name and 1 more at most
abbrev pub IsGoodTerm : TermContent → Type 0
IsGoodTerm AnyTerm = ⊥
IsGoodTerm (NumberTerm n) = n ≤ 1
IsGoodTerm (PlusTerm name n) = IsNameText name × (length name ≤ 2) × (n ≤ 1)
IsGoodTerm (MinusTerm name n) = ⊥

pub record IsGoodSet (set : SetContent) : Type 0 where
  pub name : IsNameText set.agent
  pub short : length set.agent ≤ 2
  pub term : IsGoodTerm set.term

pub record IsGoodCase (case : CaseContent) : Type 0 where
  pub demands_nothing : case.tests ≡ []
  pub sets : All IsGoodSet case.sets
  pub few : length case.sets ≤ 1

pub record IsGoodNext (next : NextContent) : Type 0 where
  pub names : All IsNameText (next.atom ∷ next.agents)
  pub some : 0 < length next.agents
  pub short : length (printed_line (codes "next" ∷ next.atom ∷ next.agents)) ≤ 20

pub record IsGoodOut (out : OutContent) : Type 0 where
  pub name : IsNameText out.name
  pub short : length out.name ≤ 4
  pub cases : All IsGoodCase out.cases
  pub nexts : All IsGoodNext out.nexts
  pub one_case : length out.cases ≤ 1
  pub few_nexts : length out.nexts ≤ 64

pub record IsGoodAtom (atom : AtomContent) : Type 0 where
  pub names : All IsNameText (atom.name ∷ atom.parties)
  pub short : length (printed_line (codes "atom" ∷ atom.name ∷ atom.parties)) ≤ 20
  pub outs : All IsGoodOut atom.outs
  pub few_outs : length atom.outs ≤ 2

pub record IsGoodContent (c : Content) : Type 0 where
  pub agents : All (λ agent. IsNameText agent.name × (length agent.name ≤ 2) × (agent.size ≤ 9)) c.agents
  pub atoms : All IsGoodAtom c.atoms
  pub ends : All (λ name. IsNameText name × (length name ≤ 3)) (c.first ∷ c.last ∷ [])
  pub few_agents : length c.agents ≤ 4
  pub few_atoms : length c.atoms ≤ 64

digit_short : (n : ℕ) → n ≤ 9 → length (decimal n) ≤ 1
digit_short n h = length-decimal-le 1 n (omega arith) (omega (arith, h)) (omega (arith, h))

-- the length of a line of two words, of three, and of four
two_words : (a b : List ℕ) → length (printed_line (a ∷ b ∷ [])) ≡ length a + 1 + length b
two_words a b = length-append a (32 ∷ b) ∙ (let e : length a + length (32 ∷ b) ≡ length a + 1 + length b = omega arith in e)

three_words : (a b c : List ℕ) → length (printed_line (a ∷ b ∷ c ∷ [])) ≡ length a + 1 + (length b + 1 + length c)
three_words a b c = length-append a (32 ∷ printed_line (b ∷ c ∷ [])) ∙ (let k = two_words b c in let e : length a + length (32 ∷ printed_line (b ∷ c ∷ [])) ≡ length a + 1 + (length b + 1 + length c) = omega (arith, k) in e)

good_term : (term : PTerm) → IsGoodTerm (term_content term) → IsTerm term × (length (term_text term) ≤ 4)
good_term terms.Any h = absurd h
good_term (terms.Number n) h = (omega (arith, h), let l = digit_short n (omega (arith, h)) in omega (arith, l))
good_term (terms.Plus w n) h = (
  (h.0, omega (arith, h.2)),
  cond_both (n == 0) w.text (w.text ++ codes "+" ++ decimal n) (λ t. length t ≤ 4) (λ _. omega (arith, h.1))
      (λ _. let l = digit_short n (omega (arith, h.2)) in omega (arith, h.1, l, length-append (w.text ++ codes "+") (decimal n), length-append w.text (codes "+"))),
)
good_term (terms.Minus w n) h = absurd h

good_set : (set : PSet) → IsGoodSet (set_content set) → IsSet set × (length (set_text set) ≤ 8)
good_set set h =
    let t = good_term set.term h.term in
    let l = h.short in
    (record { agent = h.name; term = t.0 }, omega (arith, t.1, l, length-append (set.agent.text ++ codes ":=") (term_text set.term), length-append set.agent.text (codes ":=")))

good_case : (case : PCase) → IsGoodCase (case_content case) → IsGood (CaseRow case)
good_case case h =
    let r = parts case.tests case.sets h.demands_nothing h.sets h.few in record { fit = r.0; short = r.1 }
  where
    parts : (tests : List PTest) (sets : List PSet) → map test_content tests ≡ [] → All IsGoodSet (map set_content sets) → length (map set_content sets) ≤ 1 →
        (All IsTest tests × All IsSet sets) × (length (printed_line (codes "case" ∷ map test_text tests ++ codes ":" ∷ map set_text sets)) ≤ 20)
    parts (test ∷ tests) sets none good few = absurd (cc)
    parts [] [] none good few = ((All-nil IsTest, All-nil IsSet), omega arith)
    parts [] (set ∷ []) none good few =
        let s = good_set set (All-head IsGoodSet (set_content set) [] good) in
        let l = three_words (codes "case") (codes ":") (set_text set) in
        ((All-nil IsTest, one IsSet set s.0), omega (arith, s.1, l))
    parts [] (set ∷ other ∷ sets) none good few = absurd (let no_more : ⊥ = omega (arith, few) in no_more)

-- words whose texts are names
name_words : (words : List Word) → All IsNameText (texts words) → All IsNameWord words
name_words words h = All-unmap IsNameText (λ (w : Word). w.text) words h

good_next : (next : PNext) → IsGoodNext (next_content next) → IsGood (NextRow next)
good_next next h = record {
  fit = (name_words (next.atom ∷ next.agents) h.names, let s = h.some in omega (arith, s, length-map next.agents (λ (w : Word). w.text)));
  short = h.short;
}

good_out : (out : POut) → IsGoodOut (out_content out) → All IsGood (out_rows out) × (length (out_rows out) ≤ 66)
unfolding out_rows
good_out out h =
    let cases = map CaseRow out.cases in
    let nexts = map NextRow out.nexts in
    let l = h.short in
    let c = h.one_case in
    let m = h.few_nexts in (
      All-cons IsGood (OutRow out.name) (cases ++ nexts) (record { fit = h.name; short = omega (arith, l, two_words (codes "out") out.name.text) })
          (All-append IsGood cases nexts
          (All-map IsGood CaseRow out.cases (All-weaker (λ x. IsGoodCase (case_content x)) (λ x. IsGood (CaseRow x)) good_case out.cases (All-unmap IsGoodCase case_content out.cases h.cases)))
          (All-map IsGood NextRow out.nexts (All-weaker (λ x. IsGoodNext (next_content x)) (λ x. IsGood (NextRow x)) good_next out.nexts (All-unmap IsGoodNext next_content out.nexts h.nexts)))),
      omega (arith, c, m, length-append cases nexts, length-map out.cases CaseRow, length-map out.nexts NextRow, length-map out.cases case_content, length-map out.nexts next_content),
    )

-- rows that each item has
module _ {X : Type 0} (rows : X → List Row) (most : ℕ) where
  pieces : (xs : List X) → All (λ x. All IsGood (rows x) × (length (rows x) ≤ most)) xs → All IsGood (flat_map rows xs) × (length (flat_map rows xs) ≤ length xs * most)
  pieces xs h = (
    good xs h,
    (let n = length-flat_map rows xs in let l = sum_by-le (λ x. length (rows x)) most xs (All-weaker (λ x. All IsGood (rows x) × (length (rows x) ≤ most)) (λ x. length (rows x) ≤ most) (λ x p. p.1) xs h) in omega (arith, n, l)),
  )
    where
      good : (ys : List X) → All (λ x. All IsGood (rows x) × (length (rows x) ≤ most)) ys → All IsGood (flat_map rows ys)
      good [] k = All-nil IsGood
      good (y ∷ ys) k =
          All-append IsGood (rows y) (flat_map rows ys) (All-head (λ x. All IsGood (rows x) × (length (rows x) ≤ most)) y ys k).0 (good ys (All-tail (λ x. All IsGood (rows x) × (length (rows x) ≤ most)) y ys k))

good_atom : (atom : PAtom) → IsGoodAtom (atom_content atom) → All IsGood (atom_rows atom) × (length (atom_rows atom) ≤ 133)
unfolding atom_rows
good_atom atom h =
    let outs = pieces out_rows 66 atom.outs (All-weaker (λ x. IsGoodOut (out_content x)) (λ x. All IsGood (out_rows x) × (length (out_rows x) ≤ 66)) good_out atom.outs (All-unmap IsGoodOut out_content atom.outs h.outs)) in
    let few = h.few_outs in
    let count = length-map atom.outs out_content in (
      All-cons IsGood (AtomRow atom.name atom.parties) (flat_map out_rows atom.outs) (record { fit = name_words (atom.name ∷ atom.parties) h.names; short = h.short }) outs.0,
      omega (arith, outs.1, few, count),
    )

good_agent : (agent : PAgent) → IsNameText agent.name.text × (length agent.name.text ≤ 2) × (agent.size ≤ 9) → IsGood (AgentRow agent)
good_agent agent h = record {
  fit = (h.0, omega (arith, h.2));
  short = let l = three_words (codes "agent") agent.name.text (decimal agent.size) in let d = digit_short agent.size h.2 in omega (arith, l, d, h.1);
}

abbrev IsGoodEnd : List ℕ → Type 0
IsGoodEnd name = IsNameText name × (length name ≤ 3)

-- all rows of a value with such a content, and how many they are
good_rows : (p : Parsed) → IsGoodContent (content_of p) → All IsGood (rows_of p) × (length (rows_of p) ≤ 8520)
unfolding rows_of
good_rows p h =
    let agents = map AgentRow p.agents in
    let atoms = flat_map atom_rows p.atoms in
    let ends = FirstRow p.first ∷ LastRow p.last ∷ EndRow ∷ [] in
    let first = All-head IsGoodEnd p.first.text (p.last.text ∷ []) h.ends in
    let last = All-head IsGoodEnd p.last.text [] (All-tail IsGoodEnd p.first.text (p.last.text ∷ []) h.ends) in
    let r = pieces atom_rows 133 p.atoms (All-weaker (λ x. IsGoodAtom (atom_content x)) (λ x. All IsGood (atom_rows x) × (length (atom_rows x) ≤ 133)) good_atom p.atoms (All-unmap IsGoodAtom atom_content p.atoms h.atoms)) in
    let a = h.few_agents in
    let m = h.few_atoms in (
      All-cons IsGood HeaderRow (agents ++ atoms ++ ends) (record { fit = tt; short = omega arith })
          (All-append IsGood (agents ++ atoms) ends
          (All-append IsGood agents atoms
          (All-map IsGood AgentRow p.agents (All-weaker (λ x. IsNameText x.name.text × (length x.name.text ≤ 2) × (x.size ≤ 9)) (λ x. IsGood (AgentRow x)) good_agent p.agents
          (All-unmap (λ agent. IsNameText agent.name × (length agent.name ≤ 2) × (agent.size ≤ 9)) agent_content p.agents h.agents)))
          r.0)
          (All-cons IsGood (FirstRow p.first) (LastRow p.last ∷ EndRow ∷ []) (record { fit = first.0; short = omega (arith, first.1, two_words (codes "first") p.first.text) })
          (All-cons IsGood (LastRow p.last) (EndRow ∷ []) (record { fit = last.0; short = omega (arith, last.1, two_words (codes "last") p.last.text) })
          (one IsGood EndRow (record { fit = tt; short = omega arith }))))),
      omega (arith, r.1, a, m, length-append (agents ++ atoms) ends, length-append agents atoms, length-map p.agents AgentRow, length-map p.agents agent_content, length-map p.atoms atom_content),
    )

pub good_printable : (p : Parsed) → IsGoodContent (content_of p) → IsPrintableDiagram p
good_printable p h =
    let g = (good_rows p h).0 in
    record {
      rows = All-weaker IsGood IsRow (λ row k. k.fit) (rows_of p) g;
      short = All-weaker IsGood (λ row. length (printed_line (row_words row)) ≤ 1024) (λ row k. let s = k.short in omega (arith, s)) (rows_of p) g;
    }

pub good_fits : (p : Parsed) → IsGoodContent (content_of p) → FitsPart 262144 p
good_fits p h =
    let r = good_rows p h in
    let n : length (row_texts (rows_of p)) ≡ _ = length-flat_map (λ row. line_text (row_words row)) (rows_of p) in
    let l = sum_by-le (λ row. length (line_text (row_words row))) 21 (rows_of p) (All-weaker IsGood (λ row. length (line_text (row_words row)) ≤ 21) (λ row k. let s = k.short in omega (arith, s, length-append (printed_line (row_words row)) (10 ∷ []))) (rows_of p) r.0) in
    let same = ap length (diagram_printed p) in
    omega (arith, r.1, n, l, same)
