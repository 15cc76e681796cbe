-- The sets of agents that the rules of outcomes look at.
use Rattle.std.proofs.Common.{◌≡◌, ◌⊎◌, ⊎_elim, ℕ, ◌+◌, ◌<◌, ◌≤◌, ◌==◌, Bool, true, false, not, ◌&&◌, ◌||◌, nat_le, if◌then◌else◌, List, [], ◌∷◌, length, map, take, get_or, slice_index, slice_get, Some, None, refl, sym, subst, ap, ap₂, ◌∙◌, arith, eqb-true, le-leb}
use Rattle.std.proofs.Math.Bool.{or_comm, or_assoc, or-false, and-true, and-false}
use Rattle.std.proofs.lemmas.Bool.{and_parts}
use Rattle.std.proofs.lemmas.Bool.Decides.{nat_tests}
use Rattle.std.proofs.lemmas.Simd.{map-map}
use Rattle.std.proofs.lemmas.Option.{none-some, same_Some}
use Rattle.std.proofs.lemmas.List.{get_or-map, length-map, map-append}
use Rattle.std.proofs.lemmas.List.Elements.{All-head, All-tail, All-map, All-weaker, filter_agree}
use Rattle.std.proofs.lemmas.List.Folds.{list_any_more}
use Rattle.std.specs.List.{All, list_any, flat_map, filter, range_with_len}
use Rattle.nego_base.specs.declared.ids.AgentId.{AgentId}
use Rattle.nego_base.specs.Members.{is_in, with_member, united, difference, IsRisingBelow}
use Rattle.nego_base.proofs.BoolLaws.{passing_item, filter-alike}
use Rattle.nego_base.proofs.ListLaws.{All-front, All-back, All-each}
use Rattle.nego_base.proofs.Members.{is_in-append, is_in-with, is_in-united, is_in-difference}
use Rattle.nego_data.specs.declared.cases.Case.{Case}
use Rattle.nego_data.specs.declared.cases.Set.{Set}
use Rattle.nego_data.specs.declared.cases.Test.{Test}
use Rattle.nego_data.specs.declared.cases.Term.{Term}
use Rattle.nego_data.specs.declared.cases.Term.TheVariants as terms
use Rattle.nego_data.specs.CaseForm.{operand_agents, term_agents, TestBelow, SetBelow, OperandBelow, TermBelow}
use Rattle.nego_data.specs.Places.{value_of}
use Rattle.nego_reader.specs.declared.parsed.Parsed.{Parsed}
use Rattle.nego_reader.specs.declared.parsed.PAgent.{PAgent}
use Rattle.nego_reader.specs.declared.parsed.POut.{POut}
use Rattle.nego_reader.specs.declared.parsed.PNext.{PNext}
use Rattle.nego_reader.specs.declared.parsed.PCase.{PCase}
use Rattle.nego_reader.specs.Content.{Content, AgentContent, CaseContent, TestContent, SetContent, RightContent, TermContent, Number, Name, AnyTerm, NumberTerm, PlusTerm, MinusTerm, content_of, agent_content, atom_content, out_content, next_content, case_content, texts}
use Rattle.nego_shape.specs.declared.numbers.AtomNumbers.{AtomNumbers}
use Rattle.nego_shape.specs.declared.numbers.NextNumbers.{NextNumbers}
use Rattle.nego_shape.specs.Naming.{place_of, places_of, agent_names, atom_names, sizes_in, parties_in, parties_at, operand_in, test_in, term_in, set_in, case_in}
use Rattle.nego_shape.specs.Made.{next_numbers, atom_numbers}
use Rattle.nego_shape.specs.Shaped.{IsDeclared, last_number, right_names, test_names, term_names, set_names, case_names}
use Rattle.nego_shape.specs.declared.fault.ShapeKind.{ShapeKind}
use Rattle.nego_shape.specs.declared.fault.ShapeKind.TheVariants as kinds
use Rattle.nego_shape.specs.Faults.{missing, strangers, case_line, outsiders, is_sent, is_too_large, is_overfull, of_agents, first_of}
use Rattle.nego_shape.specs.declared.checks.outcomes.Rule.{Rule}
use Rattle.nego_shape.specs.declared.checks.outcomes.Rule.TheVariants as rules
use Rattle.nego_shape.specs.Rules.{exceeds, over_agents, next_faults, case_faults}
use Rattle.nego_shape.proofs.PartiesListed.{parties_of}
use Rattle.nego_shape.proofs.Places.{parties_at-below}
use Rattle.nego_shape.proofs.ShapedDiagrams.{agents-count, atoms-count}
use Rattle.nego_shape.proofs.Gathering.{set_is_filter, set_is_parties, stands_on}

-- a set of the items so far, and one item more
pub members_more : {X : Type 0} (test : ℕ → X → Bool) (xs : List X) (i : ℕ) (d : X) (old new : List ℕ) → i < length xs → ((a : ℕ) → is_in a old ≡ list_any (test a) (take i xs)) → ((a : ℕ) → is_in a new ≡ (is_in a old || test a (get_or xs i d))) →
    (a : ℕ) → is_in a new ≡ list_any (test a) (take (i + 1) xs)
members_more test xs i d old new below so_far more a = more a ∙ (ap (λ b. b || test a (get_or xs i d)) (so_far a) ∙ sym (list_any_more (test a) xs i d below))

-- with one number more, and with two
with_one : (x : ℕ) (xs : List ℕ) (a : ℕ) → is_in a (with_member x xs) ≡ (is_in a xs || is_in a (x ∷ []))
with_one x xs a = is_in-with a x xs ∙ (or_comm (x == a) (is_in a xs) ∙ ap (λ b. is_in a xs || b) (sym (or-false (x == a))))

with_two : (x y : ℕ) (xs : List ℕ) (a : ℕ) → is_in a (with_member y (with_member x xs)) ≡ (is_in a xs || is_in a (x ∷ y ∷ []))
with_two x y xs a =
    with_one y (with_member x xs) a
    ∙ (ap (λ b. b || is_in a (y ∷ [])) (is_in-with a x xs ∙ or_comm (x == a) (is_in a xs)) ∙ or_assoc (is_in a xs) (x == a) (is_in a (y ∷ [])))

-- ---- one item more

module _ {X : Type 0} (named : X → List ℕ) (xs : List X) (i : ℕ) (d : X) (old new : List ℕ) (below : i < length xs) (so_far : (a : ℕ) → is_in a old ≡ list_any (λ x. is_in a (named x)) (take i xs)) where
  -- which names none, one, or two
  pub none_more : named (get_or xs i d) ≡ [] → new ≡ old → (a : ℕ) → is_in a new ≡ list_any (λ y. is_in a (named y)) (take (i + 1) xs)
  none_more is kept = members_more (λ a y. is_in a (named y)) xs i d old new below so_far (λ a. ap (is_in a) kept ∙ (sym (or-false (is_in a old)) ∙ ap (λ ys. is_in a old || is_in a ys) (sym is)))

  pub one_more : (x : ℕ) → named (get_or xs i d) ≡ x ∷ [] → new ≡ with_member x old → (a : ℕ) → is_in a new ≡ list_any (λ y. is_in a (named y)) (take (i + 1) xs)
  one_more x is put = members_more (λ a y. is_in a (named y)) xs i d old new below so_far (λ a. ap (is_in a) put ∙ (with_one x old a ∙ ap (λ ys. is_in a old || is_in a ys) (sym is)))

  pub two_more : (x y : ℕ) → named (get_or xs i d) ≡ x ∷ y ∷ [] → (middle : List ℕ) → middle ≡ with_member x old → new ≡ with_member y middle → (a : ℕ) → is_in a new ≡ list_any (λ z. is_in a (named z)) (take (i + 1) xs)
  two_more x y is middle first second =
      members_more (λ a z. is_in a (named z)) xs i d old new below so_far (λ a. ap (is_in a) (second ∙ ap (with_member y) first) ∙ (with_two x y old a ∙ ap (λ ys. is_in a old || is_in a ys) (sym is)))

-- ---- terms

pub no_agent : (t : Term) → ((b : AgentId) (n : ℕ) → t ≡ terms.Plus b n → ⊥) → ((b : AgentId) (n : ℕ) → t ≡ terms.Minus b n → ⊥) → term_agents t ≡ []
no_agent terms.Any plus minus = refl
no_agent (terms.Number n) plus minus = refl
no_agent (terms.Plus b n) plus minus = absurd (plus b n refl)
no_agent (terms.Minus b n) plus minus = absurd (minus b n refl)

pub one_agent : (t : Term) (b : AgentId) → ((n : ℕ) × (t ≡ terms.Plus b n)) ⊎ ((n : ℕ) × (t ≡ terms.Minus b n)) → term_agents t ≡ b.0 ∷ []
one_agent t b h = ⊎_elim (λ e. ap term_agents e.1) (λ e. ap term_agents e.1) h

-- who is assigned a number that isn't below the size
module _ (agents : List PAgent) (set : Set) where
  abbrev sizes : List ℕ
  sizes = map (λ agent. agent.size) agents

  pub not_over : ((n : ℕ) → set.term ≡ terms.Number n → ⊥) → over_agents sizes set ≡ []
  not_over h = go set.term h
    where
      go : (t : Term) → ((n : ℕ) → t ≡ terms.Number n → ⊥) → (if exceeds (value_of set.agent sizes) t then set.agent.0 ∷ [] else []) ≡ []
      go terms.Any k = refl
      go (terms.Number n) k = absurd (k n refl)
      go (terms.Plus b n) k = refl
      go (terms.Minus b n) k = refl

  module _ (n : ℕ) (agent : PAgent) (is : set.term ≡ terms.Number n) (inside : set.agent.0 < length agents) where
    over_by : (t : Bool) → nat_le (get_or agents set.agent.0 agent).size n ≡ t → over_agents sizes set ≡ (if t then set.agent.0 ∷ [] else [])
    over_by t h =
        ap (λ b. if b then set.agent.0 ∷ [] else []) (ap (exceeds (value_of set.agent sizes)) is ∙ (ap (λ s. nat_le s n) (get_or-map (λ (x : PAgent). x.size) agents set.agent.0 agent 0 inside) ∙ h))

    pub over_so : (get_or agents set.agent.0 agent).size ≤ n → over_agents sizes set ≡ set.agent.0 ∷ []
    over_so h = over_by true (le-leb (get_or agents set.agent.0 agent).size n h)

    pub over_not : n < (get_or agents set.agent.0 agent).size → over_agents sizes set ≡ []
    over_not h = over_by false (less (get_or agents set.agent.0 agent).size n h)
      where
        less : (s m : ℕ) → m < s → nat_le s m ≡ false
        less s m k = grind (arith, nat_tests)

-- a number alone, where a test holds
one_in : (a x : ℕ) (t : Bool) → is_in a (if t then x ∷ [] else []) ≡ ((x == a) && t)
one_in a x true = or-false (x == a) ∙ sym (and-true (x == a))
one_in a x false = sym (and-false (x == a))

-- ---- the sets of the text

module _ (c : Content) where
  lines_send : (a : ℕ) (nexts : List PNext) → a < length c.agents → list_any (λ next. is_in a next.agents) (map (next_numbers c) nexts) ≡ is_sent c (map next_content nexts) a
  lines_send a [] below = refl
  lines_send a (next ∷ nexts) below = ap₂ (λ s t. s || t) (stands_on c a (texts next.agents) below) (lines_send a nexts below)

  -- the parties without those who are sent
  pub unsent_are : (n : ℕ) (out : POut) (parties sent : List ℕ) → parties ≡ parties_at c n → ((a : ℕ) → is_in a sent ≡ list_any (λ next. is_in a next.agents) (map (next_numbers c) out.nexts)) →
      difference parties sent ≡ filter (λ a. not (is_sent c (out_content out).nexts a)) (parties_at c n)
  unsent_are n out parties sent are members =
      ap (λ xs. difference xs sent) are
      ∙ filter-alike (λ a. not (is_in a sent)) (λ a. not (is_sent c (out_content out).nexts a)) (parties_at c n)
      (All-weaker (λ a. a < length c.agents) (λ a. not (is_in a sent) ≡ not (is_sent c (out_content out).nexts a)) (λ a below. ap not (members a ∙ lines_send a out.nexts below)) (parties_at c n) (parties_at-below c n))

  -- who stands in pieces of a case
  pieces_placed : {T U : Type 0} (names : T → List (List ℕ)) (numbers : U → List ℕ) (f : T → U) → ((x : T) → places_of (names x) (agent_names c) ≡ numbers (f x)) →
      (a : ℕ) (xs : List T) → is_in a (places_of (flat_map names xs) (agent_names c)) ≡ list_any (λ y. is_in a (numbers y)) (map f xs)
  pieces_placed names numbers f each a [] = refl
  pieces_placed names numbers f each a (x ∷ xs) =
      ap (is_in a) (map-append (λ name. place_of name (agent_names c)) (names x) (flat_map names xs))
      ∙ (is_in-append a (places_of (names x) (agent_names c)) (places_of (flat_map names xs) (agent_names c)) ∙ ap₂ (λ s t. s || t) (ap (is_in a) (each x)) (pieces_placed names numbers f each a xs))

  test_placed : (test : TestContent) → places_of (test_names test) (agent_names c) ≡ (test_in c test).agent.0 ∷ operand_agents (test_in c test).right
  test_placed test = ap (λ xs. place_of test.left (agent_names c) ∷ xs) (go test.right)
    where
      go : (right : RightContent) → places_of (right_names right) (agent_names c) ≡ operand_agents (operand_in c right)
      go (Number n) = refl
      go (Name name) = refl

  set_placed : (set : SetContent) → places_of (set_names set) (agent_names c) ≡ (set_in c set).agent.0 ∷ term_agents (set_in c set).term
  set_placed set = ap (λ xs. place_of set.agent (agent_names c) ∷ xs) (go set.term)
    where
      go : (term : TermContent) → places_of (term_names term) (agent_names c) ≡ term_agents (term_in c term)
      go AnyTerm = refl
      go (NumberTerm n) = refl
      go (PlusTerm name n) = refl
      go (MinusTerm name n) = refl

  module _ (few : length c.agents ≤ 16) (case : CaseContent) (declared : All (IsDeclared (agent_names c)) (case_names case)) where
    -- who stands in comparisons and in assignments is the case's
    pub named_are : (one two named : List ℕ) → named ≡ united one two → IsRisingBelow 16 named → ((a : ℕ) → is_in a one ≡ list_any (λ test. is_in a (test.agent.0 ∷ operand_agents test.right)) (map (test_in c) case.tests)) →
        ((a : ℕ) → is_in a two ≡ list_any (λ set. is_in a (set.agent.0 ∷ term_agents set.term)) (map (set_in c) case.sets)) → named ≡ parties_in c (case_names case)
    named_are one two named made rises first second =
        set_is_parties c 16 (case_names case) named rises few (agents-count c) declared (λ a.
        ap (is_in a) made
        ∙ (is_in-united a one two
        ∙ (ap₂ (λ s t. s || t) (first a ∙ sym (pieces_placed test_names (λ (test : Test). test.agent.0 ∷ operand_agents test.right) (test_in c) test_placed a case.tests))
        (second a ∙ sym (pieces_placed set_names (λ (set : Set). set.agent.0 ∷ term_agents set.term) (set_in c) set_placed a case.sets))
        ∙ sym (ap (is_in a) (map-append (λ name. place_of name (agent_names c)) (flat_map test_names case.tests) (flat_map set_names case.sets))
        ∙ is_in-append a (places_of (flat_map test_names case.tests) (agent_names c)) (places_of (flat_map set_names case.sets) (agent_names c))))))

    below_16 : (a : ℕ) → a < length (agent_names c) → a < 16
    below_16 a h = let count = agents-count c in omega (arith, h, few, count)

    pub tests_below : All (TestBelow 16) (map (test_in c) case.tests)
    tests_below =
        All-map (TestBelow 16) (test_in c) case.tests
        (All-weaker (λ test. All (IsDeclared (agent_names c)) (test_names test)) (λ test. TestBelow 16 (test_in c test))
        (λ test h. (below_16 (place_of test.left (agent_names c)) (All-head (IsDeclared (agent_names c)) test.left (right_names test.right) h), right test.right (All-tail (IsDeclared (agent_names c)) test.left (right_names test.right) h)))
        case.tests (All-each (IsDeclared (agent_names c)) test_names case.tests (All-front (IsDeclared (agent_names c)) (flat_map test_names case.tests) (flat_map set_names case.sets) declared)))
      where
        right : (r : RightContent) → All (IsDeclared (agent_names c)) (right_names r) → OperandBelow 16 (operand_in c r)
        right (Number n) h = tt
        right (Name name) h = below_16 (place_of name (agent_names c)) (All-head (IsDeclared (agent_names c)) name [] h)

    sets_declared : All (λ set. All (IsDeclared (agent_names c)) (set_names set)) case.sets
    sets_declared = All-each (IsDeclared (agent_names c)) set_names case.sets (All-back (IsDeclared (agent_names c)) (flat_map test_names case.tests) (flat_map set_names case.sets) declared)

    pub sets_below : All (SetBelow 16) (map (set_in c) case.sets)
    sets_below =
        All-map (SetBelow 16) (set_in c) case.sets
        (All-weaker (λ set. All (IsDeclared (agent_names c)) (set_names set)) (λ set. SetBelow 16 (set_in c set))
        (λ set h. (below_16 (place_of set.agent (agent_names c)) (All-head (IsDeclared (agent_names c)) set.agent (term_names set.term) h), term set.term (All-tail (IsDeclared (agent_names c)) set.agent (term_names set.term) h)))
        case.sets sets_declared)
      where
        term : (t : TermContent) → All (IsDeclared (agent_names c)) (term_names t) → TermBelow 16 (term_in c t)
        term AnyTerm h = tt
        term (NumberTerm n) h = tt
        term (PlusTerm name n) h = below_16 (place_of name (agent_names c)) (All-head (IsDeclared (agent_names c)) name [] h)
        term (MinusTerm name n) h = below_16 (place_of name (agent_names c)) (All-head (IsDeclared (agent_names c)) name [] h)

    sets_placed : All (λ set. place_of set.agent (agent_names c) < length c.agents) case.sets
    sets_placed =
        All-weaker (λ set. All (IsDeclared (agent_names c)) (set_names set)) (λ set. place_of set.agent (agent_names c) < length c.agents)
        (λ set h. subst (λ n. place_of set.agent (agent_names c) < n) (agents-count c) (All-head (IsDeclared (agent_names c)) set.agent (term_names set.term) h)) case.sets sets_declared

    -- who is assigned a number that is too large
    sets_over : (a : ℕ) (sets : List SetContent) → list_any (λ set. is_in a (over_agents (sizes_in c) set)) (map (set_in c) sets) ≡ list_any (λ set. (place_of set.agent (agent_names c) == a) && is_too_large (slice_index (sizes_in c) a) set.term) sets
    sets_over a [] = refl
    sets_over a (set ∷ sets) = ap₂ (λ s t. s || t) (one_in a (place_of set.agent (agent_names c)) (exceeds (slice_index (sizes_in c) (place_of set.agent (agent_names c))) (term_in c set.term)) ∙ one (place_of set.agent (agent_names c) == a) refl) (sets_over a sets)
      where
        same_term : (size : ℕ) (term : TermContent) → exceeds size (term_in c term) ≡ is_too_large size term
        same_term size AnyTerm = refl
        same_term size (NumberTerm n) = refl
        same_term size (PlusTerm name n) = refl
        same_term size (MinusTerm name n) = refl

        one : (b : Bool) → (place_of set.agent (agent_names c) == a) ≡ b → (b && exceeds (slice_index (sizes_in c) (place_of set.agent (agent_names c))) (term_in c set.term)) ≡ (b && is_too_large (slice_index (sizes_in c) a) set.term)
        one true e = same_term (slice_index (sizes_in c) (place_of set.agent (agent_names c))) set.term ∙ ap (λ n. is_too_large (slice_index (sizes_in c) n) set.term) (eqb-true (place_of set.agent (agent_names c)) a e)
        one false e = refl

    pub overfull_are : (over : List ℕ) → IsRisingBelow 16 over → ((a : ℕ) → is_in a over ≡ list_any (λ set. is_in a (over_agents (sizes_in c) set)) (map (set_in c) case.sets)) → over ≡ filter (is_overfull c case) (range_with_len 0 (length c.agents))
    overfull_are over rises members =
        set_is_filter (is_overfull c case) (length c.agents) 16 over rises few (λ a. members a ∙ sets_over a case.sets) (λ a t.
        let set = passing_item (λ (set : SetContent). (place_of set.agent (agent_names c) == a) && is_too_large (slice_index (sizes_in c) a) set.term) (λ (set : SetContent). place_of set.agent (agent_names c) < length c.agents) case.sets t sets_placed in
        subst (λ n. n < length c.agents) (eqb-true (place_of set.0.agent (agent_names c)) a (and_parts (place_of set.0.agent (agent_names c) == a) (is_too_large (slice_index (sizes_in c) a) set.0.term) set.1).0) set.2)

-- those who aren't in both of two sets
pub strangers_are : (agents parties others : List ℕ) → difference agents (difference parties (difference parties others)) ≡ filter (λ a. not (is_in a parties && is_in a others)) agents
strangers_are agents parties others =
    filter_agree (λ a. not (is_in a (difference parties (difference parties others)))) (λ a. not (is_in a parties && is_in a others))
    (λ a. ap not (is_in-difference a parties (difference parties others) ∙ (ap (λ b. not b && is_in a parties) (is_in-difference a parties others) ∙ both (is_in a parties) (is_in a others)))) agents
  where
    both : (s t : Bool) → (not (not t && s) && s) ≡ (s && t)
    both true true = refl
    both true false = refl
    both false true = refl
    both false false = refl

-- ---- the least of a set

module _ (line : ℕ) (kind : AgentId → ShapeKind) (set agents : List ℕ) (are : set ≡ agents) where
  pub none_told : set ≡ [] → None ≡ first_of (of_agents line kind agents)
  none_told none = rw (sym are ∙ none) refl

  pub least_told : (a : AgentId) → slice_get set 0 ≡ Some a.0 → Some (record { line = line; kind = kind a }) ≡ first_of (of_agents line kind agents)
  least_told a least = go agents (ap (λ xs. slice_get xs 0) (sym are) ∙ least)
    where
      go : (xs : List ℕ) → slice_get xs 0 ≡ Some a.0 → Some (record { line = line; kind = kind a }) ≡ first_of (of_agents line kind xs)
      go [] h = absurd (none-some a.0 h)
      go (x ∷ xs) h = ap (λ b. Some (record { line = line; kind = kind (record { 0 = b }) })) (sym (same_Some x a.0 h))

-- ---- the first fault of a rule

module _ (p : Parsed) (numbers : List AtomNumbers) (are : numbers ≡ map (atom_numbers (content_of p)) p.atoms) (n o : ℕ) (below : n < length p.atoms) (d : AtomNumbers) where
  abbrev c : Content
  c = content_of p

  -- who is missing on next lines
  module _ (out : POut) (other : (n == last_number c) ≡ false) (nexts : List NextNumbers) (same : nexts ≡ map (next_numbers c) out.nexts) (sent left : List ℕ) (members : (a : ℕ) → is_in a sent ≡ list_any (λ next. is_in a next.agents) nexts)
      (made : left ≡ difference (get_or numbers n d).parties sent) where
    unsent : left ≡ filter (λ a. not (is_sent c (out_content out).nexts a)) (parties_at c n)
    unsent = made ∙ unsent_are c n out (get_or numbers n d).parties sent (parties_of p numbers are n d below) (λ a. members a ∙ ap (list_any (λ (next : NextNumbers). is_in a next.agents)) same)

    pub none_missing : left ≡ [] → None ≡ first_of (missing c n o out)
    none_missing h = rw other (none_told out.name.line (kinds.NextMissing (record { 0 = o })) left _ unsent h)

    pub least_missing : (a : AgentId) → slice_get left 0 ≡ Some a.0 → Some (record { line = out.name.line; kind = kinds.NextMissing (record { 0 = o }) a }) ≡ first_of (missing c n o out)
    least_missing a h = rw other (least_told out.name.line (kinds.NextMissing (record { 0 = o })) left _ unsent a h)

  -- who is a stranger on a next line
  module _ (rule : Rule) (other : rule ≡ rules.LastEnds → ⊥) (next : PNext) (own : NextNumbers) (same : own ≡ next_numbers c next) (declared : IsDeclared (atom_names c) next.atom.text) (e : AtomNumbers) (left : List ℕ)
      (made : left ≡ difference own.agents (difference (get_or numbers n d).parties (difference (get_or numbers n d).parties (get_or numbers own.atom.0 e).parties))) where
    abbrev m : ℕ
    m = place_of next.atom.text (atom_names c)

    strange_by : (r : Rule) → (r ≡ rules.LastEnds → ⊥) → strangers c n o next ≡ next_faults r c n o next
    strange_by rules.AllSent h = refl
    strange_by rules.NoStranger h = refl
    strange_by rules.LastEnds h = absurd (h refl)
    strange_by rules.PartiesAlone h = refl
    strange_by rules.NoLargeValue h = refl

    strange : left ≡ filter (λ a. not (is_in a (parties_at c n) && is_in a (parties_at c m))) (parties_in c (texts next.agents))
    strange =
        made
        ∙ (strangers_are own.agents (get_or numbers n d).parties (get_or numbers own.atom.0 e).parties
        ∙ (ap (λ (x : NextNumbers). filter (λ a. not (is_in a (get_or numbers n d).parties && is_in a (get_or numbers x.atom.0 e).parties)) x.agents) same
        ∙ ap₂ (λ xs ys. filter (λ a. not (is_in a xs && is_in a ys)) (parties_in c (texts next.agents))) (parties_of p numbers are n d below)
        (parties_of p numbers are m e (subst (λ k. m < k) (atoms-count c ∙ length-map p.atoms atom_content) declared))))

    pub none_strange : left ≡ [] → None ≡ first_of (next_faults rule c n o next)
    none_strange h = none_told next.atom.line (λ a. kinds.NextStranger (record { 0 = o }) a (record { 0 = m })) left _ strange h ∙ ap first_of (strange_by rule other)

    pub least_strange : (a : AgentId) → slice_get left 0 ≡ Some a.0 → Some (record { line = next.atom.line; kind = kinds.NextStranger (record { 0 = o }) a own.atom }) ≡ first_of (next_faults rule c n o next)
    least_strange a h =
        ap (λ (x : NextNumbers). Some (record { line = next.atom.line; kind = kinds.NextStranger (record { 0 = o }) a x.atom })) same
        ∙ (least_told next.atom.line (λ b. kinds.NextStranger (record { 0 = o }) b (record { 0 = m })) left _ strange a h ∙ ap first_of (strange_by rule other))

-- who stands in a case
module _ (p : Parsed) (few : length (content_of p).agents ≤ 16) (o : ℕ) (case : PCase) (declared : All (IsDeclared (agent_names (content_of p))) (case_names (case_content case))) where
  abbrev text : Content
  text = content_of p

  -- and is no party
  module _ (n : ℕ) (rule : Rule) (other : rule ≡ rules.NoLargeValue → ⊥) (own : Case) (same : own ≡ case_in text (case_content case)) (tests : List Test) (as_tests : tests ≡ own.tests) (sets : List Set) (as_sets : sets ≡ own.sets)
      (one two named parties left : List ℕ) (first : (a : ℕ) → is_in a one ≡ list_any (λ test. is_in a (test.agent.0 ∷ operand_agents test.right)) tests) (second : (a : ℕ) → is_in a two ≡ list_any (λ set. is_in a (set.agent.0 ∷ term_agents set.term)) sets)
      (rises : IsRisingBelow 16 named) (both : named ≡ united one two) (made : left ≡ difference named parties) (are : parties ≡ parties_at text n) where
    outside_by : (r : Rule) → (r ≡ rules.NoLargeValue → ⊥) → outsiders text n o case ≡ case_faults r text n o case
    outside_by rules.AllSent h = refl
    outside_by rules.NoStranger h = refl
    outside_by rules.LastEnds h = refl
    outside_by rules.PartiesAlone h = refl
    outside_by rules.NoLargeValue h = absurd (h refl)

    outside : left ≡ filter (λ a. not (is_in a (parties_at text n))) (parties_in text (case_names (case_content case)))
    outside =
        made
        ∙ ap₂ difference (named_are text few (case_content case) declared one two named both rises
        (λ a. first a ∙ ap (list_any (λ (test : Test). is_in a (test.agent.0 ∷ operand_agents test.right))) (as_tests ∙ ap (λ (x : Case). x.tests) same))
        (λ a. second a ∙ ap (list_any (λ (set : Set). is_in a (set.agent.0 ∷ term_agents set.term))) (as_sets ∙ ap (λ (x : Case). x.sets) same))) are

    pub none_outside : left ≡ [] → None ≡ first_of (case_faults rule text n o case)
    none_outside h = none_told (case_line case) (kinds.NotParty (record { 0 = o })) left _ outside h ∙ ap first_of (outside_by rule other)

    pub least_outside : (a : AgentId) → slice_get left 0 ≡ Some a.0 → Some (record { line = case_line case; kind = kinds.NotParty (record { 0 = o }) a }) ≡ first_of (case_faults rule text n o case)
    least_outside a h = least_told (case_line case) (kinds.NotParty (record { 0 = o })) left _ outside a h ∙ ap first_of (outside_by rule other)

  -- and is assigned too large a number
  module _ (n : ℕ) (rule : Rule) (large : rule ≡ rules.NoLargeValue) (own : Case) (same : own ≡ case_in text (case_content case)) (agents : List PAgent) (as_agents : agents ≡ p.agents) (sets : List Set) (as_sets : sets ≡ own.sets) where
    pub sets_inside : All (λ set. set.agent.0 < length agents) sets
    sets_inside =
        subst (All (λ set. set.agent.0 < length agents)) (sym (as_sets ∙ ap (λ (x : Case). x.sets) same))
        (subst (λ k. All (λ (set : Set). set.agent.0 < k) (map (set_in text) (case_content case).sets)) (length-map p.agents agent_content ∙ ap length (sym as_agents)) (All-map (λ (set : Set). set.agent.0 < length text.agents) (set_in text) (case_content case).sets (sets_placed text few (case_content case) declared)))

    module _ (over : List ℕ) (rises : IsRisingBelow 16 over) (members : (a : ℕ) → is_in a over ≡ list_any (λ set. is_in a (over_agents (map (λ agent. agent.size) agents) set)) sets) where
      filled : over ≡ filter (is_overfull text (case_content case)) (range_with_len 0 (length text.agents))
      filled =
          overfull_are text few (case_content case) declared over rises (λ a.
          members a ∙ (ap (list_any (λ (set : Set). is_in a (over_agents (map (λ agent. agent.size) agents) set))) (as_sets ∙ ap (λ (x : Case). x.sets) same)
          ∙ ap (λ sizes. list_any (λ (set : Set). is_in a (over_agents sizes set)) (map (set_in text) (case_content case).sets)) (ap (map (λ (agent : PAgent). agent.size)) as_agents ∙ sym (map-map (λ (agent : AgentContent). agent.size) agent_content p.agents))))

      pub none_over : over ≡ [] → None ≡ first_of (case_faults rule text n o case)
      none_over h = none_told (case_line case) (kinds.ValueTooLarge (record { 0 = o })) over _ filled h ∙ ap (λ r. first_of (case_faults r text n o case)) (sym large)

      pub least_over : (a : AgentId) → slice_get over 0 ≡ Some a.0 → Some (record { line = case_line case; kind = kinds.ValueTooLarge (record { 0 = o }) a }) ≡ first_of (case_faults rule text n o case)
      least_over a h = least_told (case_line case) (kinds.ValueTooLarge (record { 0 = o })) over _ filled a h ∙ ap (λ r. first_of (case_faults r text n o case)) (sym large)
