-- The cases of an outcome, with agents' numbers, and its table.
use Rattle.std.proofs.Common.{◌≢◌, ℕ, List, [], ◌∷◌, map, arith}
use Rattle.std.proofs.lemmas.List.Elements.{All-nil, All-cons, All-head, All-tail}
use Rattle.std.specs.List.{All, flat_map}
use Rattle.std.specs.Prelude.{IsTrue}
use Rattle.nego_base.specs.Members.{is_in}
use Rattle.nego_base.proofs.PairLaws.{AllPairs-cons, AllPairs-head, AllPairs-tail}
use Rattle.nego_base.proofs.ListLaws.{All-front, All-back, All-each}
use Rattle.nego_data.specs.declared.cases.Set.{Set}
use Rattle.nego_data.specs.declared.cases.Test.{Test}
use Rattle.nego_data.specs.Cases.{rows_of}
use Rattle.nego_data.specs.CaseForm.{NamesOnly, AssignsOnce, AssignsBelow, AreAmong, operand_agents, term_agents}
use Rattle.nego_data.proofs.Tables.{rows_of-table}
use Rattle.nego_data.proofs.CaseRelations.{rows_of-acts, rows_of-some}
use Rattle.nego_model.proofs.diagrams.Conditions.{TableFits}
use Rattle.nego_reader.specs.Content.{Content, OutContent, CaseContent, TestContent, SetContent, RightContent, TermContent, Number, Name, AnyTerm, NumberTerm, PlusTerm, MinusTerm}
use Rattle.nego_shape.specs.Naming.{place_of, agent_names, sizes_in, operand_in, test_in, term_in, set_in, case_in, cases_in}
use Rattle.nego_shape.specs.Shaped.{AreDifferent, IsDeclared, right_names, test_names, term_names, set_names, case_names, assigned_names, IsAllCovered}
use Rattle.nego_shape.proofs.Places.{place_of-same}

module _ (c : Content) (parties : List ℕ) where
  -- the name is one of the parties
  abbrev Named : List ℕ → Type 0
  Named name = IsTrue (is_in (place_of name (agent_names c)) parties)

  abbrev In : ℕ → Type 0
  In a = IsTrue (is_in a parties)

  right-among : (right : RightContent) → All Named (right_names right) → AreAmong parties (operand_agents (operand_in c right))
  right-among (Number n) h = All-nil In
  right-among (Name name) h = All-cons In (place_of name (agent_names c)) [] (All-head Named name [] h) (All-nil In)

  term-among : (term : TermContent) → All Named (term_names term) → AreAmong parties (term_agents (term_in c term))
  term-among AnyTerm h = All-nil In
  term-among (NumberTerm n) h = All-nil In
  term-among (PlusTerm name n) h = All-cons In (place_of name (agent_names c)) [] (All-head Named name [] h) (All-nil In)
  term-among (MinusTerm name n) h = All-cons In (place_of name (agent_names c)) [] (All-head Named name [] h) (All-nil In)

  tests-among : (tests : List TestContent) → All (λ test. All Named (test_names test)) tests → All (λ test. AreAmong parties (test.agent.0 ∷ operand_agents test.right)) (map (test_in c) tests)
  tests-among [] h = All-nil (λ (test : Test). AreAmong parties (test.agent.0 ∷ operand_agents test.right))
  tests-among (test ∷ tests) h =
      let k = All-head (λ (t : TestContent). All Named (test_names t)) test tests h in
      All-cons (λ (t : Test). AreAmong parties (t.agent.0 ∷ operand_agents t.right)) (test_in c test) (map (test_in c) tests)
      (All-cons In (place_of test.left (agent_names c)) (operand_agents (operand_in c test.right)) (All-head Named test.left (right_names test.right) k)
      (right-among test.right (All-tail Named test.left (right_names test.right) k)))
      (tests-among tests (All-tail (λ (t : TestContent). All Named (test_names t)) test tests h))

  sets-among : (sets : List SetContent) → All (λ set. All Named (set_names set)) sets → All (λ set. AreAmong parties (set.agent.0 ∷ term_agents set.term)) (map (set_in c) sets)
  sets-among [] h = All-nil (λ (set : Set). AreAmong parties (set.agent.0 ∷ term_agents set.term))
  sets-among (set ∷ sets) h =
      let k = All-head (λ (s : SetContent). All Named (set_names s)) set sets h in
      All-cons (λ (s : Set). AreAmong parties (s.agent.0 ∷ term_agents s.term)) (set_in c set) (map (set_in c) sets)
      (All-cons In (place_of set.agent (agent_names c)) (term_agents (term_in c set.term)) (All-head Named set.agent (term_names set.term) k)
      (term-among set.term (All-tail Named set.agent (term_names set.term) k)))
      (sets-among sets (All-tail (λ (s : SetContent). All Named (set_names s)) set sets h))

  -- a case names parties alone
  case_in-named : (case : CaseContent) → All Named (case_names case) → NamesOnly parties (case_in c case)
  case_in-named case h = record {
    tests = tests-among case.tests (All-each Named test_names case.tests (All-front Named (flat_map test_names case.tests) (flat_map set_names case.sets) h));
    sets = sets-among case.sets (All-each Named set_names case.sets (All-back Named (flat_map test_names case.tests) (flat_map set_names case.sets) h));
  }

  pub cases_in-named : (cases : List CaseContent) → All (λ case. All Named (case_names case)) cases → All (NamesOnly parties) (map (case_in c) cases)
  cases_in-named [] h = All-nil (NamesOnly parties)
  cases_in-named (case ∷ cases) h =
      All-cons (NamesOnly parties) (case_in c case) (map (case_in c) cases) (case_in-named case (All-head (λ (x : CaseContent). All Named (case_names x)) case cases h))
      (cases_in-named cases (All-tail (λ (x : CaseContent). All Named (case_names x)) case cases h))

module _ (c : Content) where
  abbrev Declared : List ℕ → Type 0
  Declared name = IsDeclared (agent_names c) name

  -- a declared agent that differs from others has another place
  other_places : (name : List ℕ) (sets : List SetContent) → Declared name → All Declared (assigned_names (record { tests = []; sets = sets })) → All (λ other. name ≢ other) (map (λ set. set.agent) sets) →
      All (λ two. place_of name (agent_names c) ≢ two.agent.0) (map (set_in c) sets)
  other_places name [] d all differ = All-nil (λ (two : Set). place_of name (agent_names c) ≢ two.agent.0)
  other_places name (set ∷ sets) d all differ =
      All-cons (λ (two : Set). place_of name (agent_names c) ≢ two.agent.0) (set_in c set) (map (set_in c) sets)
      (λ e. All-head (λ other. name ≢ other) set.agent (map (λ (s : SetContent). s.agent) sets) differ
      (place_of-same name set.agent (agent_names c) d (All-head Declared set.agent (map (λ (s : SetContent). s.agent) sets) all) e))
      (other_places name sets d (All-tail Declared set.agent (map (λ (s : SetContent). s.agent) sets) all) (All-tail (λ other. name ≢ other) set.agent (map (λ (s : SetContent). s.agent) sets) differ))

  sets-once : (sets : List SetContent) → All Declared (map (λ set. set.agent) sets) → AreDifferent (map (λ set. set.agent) sets) → AssignsOnce (record { tests = []; sets = map (set_in c) sets })
  sets-once [] all differ i j d before within = absurd (omega (arith, within))
  sets-once (set ∷ sets) all differ i j d before within =
      AllPairs-cons (λ (one two : Set). one.agent.0 ≢ two.agent.0) (set_in c set) (map (set_in c) sets)
      (other_places set.agent sets (All-head Declared set.agent (map (λ (s : SetContent). s.agent) sets) all) (All-tail Declared set.agent (map (λ (s : SetContent). s.agent) sets) all)
      (AllPairs-head (λ one two. one ≢ two) set.agent (map (λ (s : SetContent). s.agent) sets) differ))
      (sets-once sets (All-tail Declared set.agent (map (λ (s : SetContent). s.agent) sets) all) (AllPairs-tail (λ one two. one ≢ two) set.agent (map (λ (s : SetContent). s.agent) sets) differ))
      i j d before within

  assigned-declared : (sets : List SetContent) → All (λ set. All Declared (set_names set)) sets → All Declared (map (λ set. set.agent) sets)
  assigned-declared [] h = All-nil Declared
  assigned-declared (set ∷ sets) h =
      All-cons Declared set.agent (map (λ (s : SetContent). s.agent) sets) (All-head Declared set.agent (term_names set.term) (All-head (λ (s : SetContent). All Declared (set_names s)) set sets h))
      (assigned-declared sets (All-tail (λ (s : SetContent). All Declared (set_names s)) set sets h))

  -- a case assigns no agent twice
  case_in-once : (case : CaseContent) → All Declared (case_names case) → AreDifferent (assigned_names case) → AssignsOnce (case_in c case)
  case_in-once case h differ =
      sets-once case.sets (assigned-declared case.sets (All-each Declared set_names case.sets (All-back Declared (flat_map test_names case.tests) (flat_map set_names case.sets) h))) differ

  pub cases_in-once : (cases : List CaseContent) → All (λ case. All Declared (case_names case)) cases → All (λ case. AreDifferent (assigned_names case)) cases → All AssignsOnce (map (case_in c) cases)
  cases_in-once [] h differ = All-nil AssignsOnce
  cases_in-once (case ∷ cases) h differ =
      All-cons AssignsOnce (case_in c case) (map (case_in c) cases)
      (case_in-once case (All-head (λ (x : CaseContent). All Declared (case_names x)) case cases h) (All-head (λ (x : CaseContent). AreDifferent (assigned_names x)) case cases differ))
      (cases_in-once cases (All-tail (λ (x : CaseContent). All Declared (case_names x)) case cases h) (All-tail (λ (x : CaseContent). AreDifferent (assigned_names x)) case cases differ))

  -- the table of an outcome is one of an atom with these parties
  pub table_in-fits : (parties : List ℕ) (out : OutContent) → All (NamesOnly parties) (cases_in c out) → All (AssignsBelow (sizes_in c)) (cases_in c out) → IsAllCovered c out →
      TableFits (sizes_in c) parties (rows_of (sizes_in c) (cases_in c out))
  table_in-fits parties out named below covered = record {
    is_table = rows_of-table (sizes_in c) (cases_in c out);
    total = λ d h. rows_of-some (sizes_in c) (cases_in c out) d h below (covered d h);
    acts = rows_of-acts (sizes_in c) parties (cases_in c out) named;
  }
