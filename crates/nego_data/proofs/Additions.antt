-- What a table relates once joint data, the offsets of a case, and cases are added one after another.
use Rattle.std.proofs.Common.{◌≡◌, inl, inr, ℕ, ◌+◌, ◌-◌, min, ◌<◌, ◌≤◌, Bool, true, false, ◌&&◌, ◌||◌, ◌==◌, nat_lt, List, [], ◌∷◌, ◌++◌, length, take, map, get_or, slice_index, slice_index_or, subst, Option, Some, None, IsTrue, refl, sym, ap, ap₂, ◌∙◌, arith}
use Rattle.std.proofs.lemmas.Bool.{cases_eq}
use Rattle.std.proofs.lemmas.Bool.Decides.{nat_tests}
use Rattle.std.proofs.lemmas.List.{take_more, length-take-le, get_or-take, ext_get_or}
use Rattle.std.proofs.lemmas.List.Folds.{list_any-append}
use Rattle.std.proofs.lemmas.List.Elements.{All-head, All-tail, All-weaker}
use Rattle.std.specs.List.{All, list_any, list_all, range_with_len}
use Rattle.nego_base.specs.Members.{is_in}
use Rattle.nego_base.proofs.Members.{All-member}
use Rattle.nego_data.specs.declared.cases.Operand.{Operand}
use Rattle.nego_data.specs.declared.cases.Operand.TheVariants as operands
use Rattle.nego_data.specs.declared.cases.Term.{Term}
use Rattle.nego_data.specs.declared.cases.Term.TheVariants as terms
use Rattle.nego_data.specs.declared.cases.Test.{Test}
use Rattle.nego_data.specs.declared.cases.Case.{Case}
use Rattle.nego_data.specs.Data.{data_count, split, joint}
use Rattle.nego_data.specs.Tables.{IsTable, is_related}
use Rattle.nego_data.specs.Sizes.{tuple_of}
use Rattle.nego_data.specs.Cases.{term_for, compares, operand_value, test_holds, covers, case_relates, relates, rows_of}
use Rattle.nego_data.specs.CaseForm.{AreAmong, NamesOnly, OperandBelow, TermBelow, TestBelow, SetBelow, IsNamedBelow, operand_agents, term_agents}
use Rattle.nego_data.specs.Given.{least_after, least_values}
use Rattle.std.proofs.lemmas.List.FromFn.{get_or-map-range_with_len, length-map-range_with_len}
use Rattle.nego_data.proofs.Counts.{joint-front}
use Rattle.nego_data.proofs.JointData.{length-split, joint-split}
use Rattle.nego_data.proofs.Assigned.{at-least_values}
use Rattle.nego_data.proofs.Tuples.{at-tuple_of}
use Rattle.nego_data.proofs.Tables.{same_tables, rows_of-table, rows_of-relates}

-- ---- values that are the same at each agent

module _ (one two : List ℕ) (same : (a : ℕ) → slice_index one a ≡ slice_index two a) where
  operand_value-same : (operand : Operand) → operand_value operand one ≡ operand_value operand two
  operand_value-same (operands.Number n) = refl
  operand_value-same (operands.Value b) = same b.0

  tests_hold-same : (tests : List Test) → list_all (λ test. test_holds test one) tests ≡ list_all (λ test. test_holds test two) tests
  tests_hold-same [] = refl
  tests_hold-same (test ∷ tests) = ap₂ ◌&&◌ (ap₂ (compares test.op) (same test.agent.0) (operand_value-same test.right)) (tests_hold-same tests)

  -- a case covers both or none
  pub covers-same_values : (case : Case) → covers case one ≡ covers case two
  covers-same_values case = tests_hold-same case.tests

  -- an agent's least value is the same after both
  pub least_after-same_values : (o : Option Term) (size old : ℕ) → least_after o size one old ≡ least_after o size two old
  least_after-same_values None size old = refl
  least_after-same_values (Some terms.Any) size old = refl
  least_after-same_values (Some (terms.Number n)) size old = refl
  least_after-same_values (Some (terms.Plus b n)) size old = ap (λ v. least_after (Some (terms.Number (min (v + n) (size - 1)))) size [] old) (same b.0)
  least_after-same_values (Some (terms.Minus b n)) size old = ap (λ v. least_after (Some (terms.Number (min (v - n) (size - 1)))) size [] old) (same b.0)

-- a case covers the tuple of joint data where it covers their values
pub tuple_covers : (sizes : List ℕ) (case : Case) (d : ℕ) (old : List ℕ) → old ≡ tuple_of sizes d → covers case old ≡ covers case (split sizes d)
tuple_covers sizes case d old is = ap (covers case) is ∙ covers-same_values (tuple_of sizes d) (split sizes d) (at-tuple_of sizes d) case

-- the least values after the tuple of joint data are those after their values
pub tuple_least : (sizes : List ℕ) (case : Case) (d : ℕ) (old new : List ℕ) → old ≡ tuple_of sizes d →
    ((a : ℕ) → a < length sizes → slice_index new a ≡ least_after (term_for case.sets a) (slice_index sizes a) old (slice_index old a)) →
    (a : ℕ) → a < length sizes → slice_index new a ≡ least_after (term_for case.sets a) (slice_index sizes a) (split sizes d) (slice_index (split sizes d) a)
tuple_least sizes case d old new is least a h =
    least a h
    ∙ ap (λ values. least_after (term_for case.sets a) (slice_index sizes a) values (slice_index values a)) is
    ∙ least_after-same_values (tuple_of sizes d) (split sizes d) (at-tuple_of sizes d) (term_for case.sets a) (slice_index sizes a) (slice_index (tuple_of sizes d) a)
    ∙ ap (least_after (term_for case.sets a) (slice_index sizes a) (split sizes d)) (at-tuple_of sizes d a)

-- ---- agents below a count

module _ (agents : List ℕ) (count : ℕ) (below : All (λ a. a < count) agents) where
  one_below : (a : ℕ) (named : List ℕ) → AreAmong agents (a ∷ named) → a < count
  one_below a named among = All-member (λ b. b < count) a agents below (All-head (λ b. IsTrue (is_in b agents)) a named among)

  operand_below : (operand : Operand) → AreAmong agents (operand_agents operand) → OperandBelow count operand
  operand_below (operands.Number n) among = tt
  operand_below (operands.Value b) among = one_below b.0 [] among

  term_below : (term : Term) → AreAmong agents (term_agents term) → TermBelow count term
  term_below terms.Any among = tt
  term_below (terms.Number n) among = tt
  term_below (terms.Plus b n) among = one_below b.0 [] among
  term_below (terms.Minus b n) among = one_below b.0 [] among

  -- a case that names agents below a count alone
  pub named_below : (case : Case) → NamesOnly agents case → IsNamedBelow count case
  named_below case names = record {
    tests = All-weaker (λ test. AreAmong agents (test.agent.0 ∷ operand_agents test.right)) (TestBelow count)
        (λ test among. (one_below test.agent.0 (operand_agents test.right) among, operand_below test.right (All-tail (λ b. IsTrue (is_in b agents)) test.agent.0 (operand_agents test.right) among))) case.tests names.tests;
    sets = All-weaker (λ set. AreAmong agents (set.agent.0 ∷ term_agents set.term)) (SetBelow count)
        (λ set among. (one_below set.agent.0 (term_agents set.term) among, term_below set.term (All-tail (λ b. IsTrue (is_in b agents)) set.agent.0 (term_agents set.term) among))) case.sets names.sets;
  }

-- a term whose agents are below a count has them below a greater
term_below_more : (count more : ℕ) (term : Term) → count ≤ more → TermBelow count term → TermBelow more term
term_below_more count more terms.Any h k = tt
term_below_more count more (terms.Number n) h k = tt
term_below_more count more (terms.Plus b n) h k = omega (arith, h, k)
term_below_more count more (terms.Minus b n) h k = omega (arith, h, k)

-- an operand whose agent is below a count has it below a greater
operand_below_more : (count more : ℕ) (operand : Operand) → count ≤ more → OperandBelow count operand → OperandBelow more operand
operand_below_more count more (operands.Number n) h k = tt
operand_below_more count more (operands.Value b) h k = omega (arith, h, k)

-- what is named below a count is named below a greater
pub named_below_more : (count more : ℕ) (case : Case) → count ≤ more → IsNamedBelow count case → IsNamedBelow more case
named_below_more count more case h named = record {
  tests = All-weaker (TestBelow count) (TestBelow more) (λ test k. (omega (arith, h, k.0), operand_below_more count more test.right h k.1)) case.tests named.tests;
  sets = All-weaker (SetBelow count) (SetBelow more) (λ set k. (omega (arith, h, k.0), term_below_more count more set.term h k.1)) case.sets named.sets;
}

-- ---- additions to a table

-- one joint data more to which a case relates what it does
pub related_data : (first table new : List (List ℕ)) (count d : ℕ) (relation : ℕ → ℕ → Bool) →
    ((c e : ℕ) → c < count → e < count → is_related table c e ≡ (is_related first c e || (nat_lt c d && relation c e))) →
    ((c e : ℕ) → c < count → e < count → is_related new c e ≡ (is_related table c e || (c == d && relation d e))) →
    (c e : ℕ) → c < count → e < count → is_related new c e ≡ (is_related first c e || (nat_lt c (d + 1) && relation c e))
related_data first table new count d relation before more c e h k =
    more c e h k ∙ ap (λ b. b || (c == d && relation d e)) (before c e h k) ∙ elim (cases_eq c d) [
      | inl same ↦ ap (λ b. (is_related first c e || (nat_lt c d && relation c e)) || (c == d && b)) (ap (λ n. relation n e) (sym same)) ∙ joined_same (is_related first c e) (relation c e) same
      | inr other ↦ joined_other (is_related first c e) (relation c e) (relation d e) other
    ]
  where
    joined_same : (r s : Bool) → c ≡ d → ((r || (nat_lt c d && s)) || (c == d && s)) ≡ (r || (nat_lt c (d + 1) && s))
    joined_same r s same = grind (arith, nat_tests)

    joined_other : (r s t : Bool) → (c ≡ d → ⊥) → ((r || (nat_lt c d && s)) || (c == d && t)) ≡ (r || (nat_lt c (d + 1) && s))
    joined_other r s t other = grind (arith, nat_tests)

-- what a case relates that covers the data
pub when_covered : (covered related some : Bool) → covered ≡ true → related ≡ (covered && some) → related ≡ some
when_covered covered related some h e = e ∙ ap (λ b. b && some) h

-- a case that doesn't cover the data relates them to none
pub not_covered : (sizes : List ℕ) (case : Case) (d e : ℕ) → covers case (split sizes d) ≡ false → relates sizes (case ∷ []) d e ≡ false
not_covered sizes case d e h = rw h (none (nat_lt d (data_count sizes)) (nat_lt e (data_count sizes)))
  where
    none : (s t : Bool) → (s && (t && false)) ≡ false
    none true true = refl
    none true false = refl
    none false t = refl

-- nothing more is related
pub no_more : (first : Bool) (c d : ℕ) → first ≡ (first || (c == d && false))
no_more first c d = grind (arith, nat_tests)

-- cases and one more relate what the cases do or the one does
pub relates_more : (sizes : List ℕ) (cases : List Case) (i d e : ℕ) (case : Case) → i < length cases → case ≡ get_or cases i case →
    relates sizes (take (i + 1) cases) d e ≡ (relates sizes (take i cases) d e || relates sizes (case ∷ []) d e)
relates_more sizes cases i d e case h is =
    ap (λ xs. relates sizes xs d e) (take_more cases i case h ∙ ap (λ x. take i cases ++ x ∷ []) (sym is))
    ∙ ap (λ b. nat_lt d (data_count sizes) && (nat_lt e (data_count sizes) && b)) (list_any-append (λ x. case_relates sizes x (split sizes d) (split sizes e)) (take i cases) (case ∷ []))
    ∙ spread (nat_lt d (data_count sizes)) (nat_lt e (data_count sizes)) (list_any (λ x. case_relates sizes x (split sizes d) (split sizes e)) (take i cases))
    (list_any (λ x. case_relates sizes x (split sizes d) (split sizes e)) (case ∷ []))
  where
    spread : (s t p q : Bool) → (s && (t && (p || q))) ≡ ((s && (t && p)) || (s && (t && q)))
    spread true true p q = refl
    spread true false p q = refl
    spread false t p q = refl

-- values are covered by cases and one more where the cases cover them or the one does
pub covers_more : (values : List ℕ) (cases : List Case) (i : ℕ) (case : Case) → i < length cases → case ≡ get_or cases i case →
    list_any (λ x. covers x values) (take (i + 1) cases) ≡ (list_any (λ x. covers x values) (take i cases) || covers case values)
covers_more values cases i case h is =
    ap (list_any (λ x. covers x values)) (take_more cases i case h ∙ ap (λ x. take i cases ++ x ∷ []) (sym is))
    ∙ list_any-append (λ x. covers x values) (take i cases) (case ∷ []) ∙ ap (λ b. list_any (λ x. covers x values) (take i cases) || b) (or_none (covers case values))
  where
    or_none : (b : Bool) → (b || false) ≡ b
    or_none true = refl
    or_none false = refl

-- a table that relates what cases do is theirs
pub table_of_cases : (sizes : List ℕ) (cases : List Case) (table : List (List ℕ)) → IsTable (data_count sizes) table →
    ((d e : ℕ) → d < data_count sizes → e < data_count sizes → is_related table d e ≡ relates sizes cases d e) → table ≡ rows_of sizes cases
table_of_cases sizes cases table ok related =
    same_tables (data_count sizes) table (rows_of sizes cases) ok (rows_of-table sizes cases) (λ d e h k. related d e h k ∙ sym (rows_of-relates sizes cases d e))

-- ---- the number of the least values

-- values that are the same at each agent have one number
pub joint-same : (sizes xs ys : List ℕ) → length sizes ≤ length xs → length sizes ≤ length ys → ((a : ℕ) → a < length sizes → slice_index xs a ≡ slice_index ys a) → joint sizes xs ≡ joint sizes ys
joint-same sizes xs ys long long' same =
    let size = length-take-le (length sizes) xs long in
    let size' = length-take-le (length sizes) ys long' in
    sym (joint-front sizes xs)
    ∙ ap (joint sizes) (ext_get_or 0 (take (length sizes) xs) (take (length sizes) ys) (size ∙ sym size') (λ a h.
    let below : a < length sizes = subst (λ n. a < n) size h in
    get_or-take (length sizes) xs a 0 below ∙ same a below ∙ sym (get_or-take (length sizes) ys a 0 below)))
    ∙ joint-front sizes ys

-- a value of all, in the list of them
pub value-at : (sizes : List ℕ) (values : List (List ℕ)) (d : ℕ) → values ≡ map (tuple_of sizes) (range_with_len 0 (data_count sizes)) → d < data_count sizes → slice_index_or values d [] ≡ tuple_of sizes d
value-at sizes values d is h = ap (λ xs. slice_index_or xs d []) is ∙ get_or-map-range_with_len (tuple_of sizes) 0 (data_count sizes) d d [] h (omega arith)

pub length-values : (sizes : List ℕ) (values : List (List ℕ)) → values ≡ map (tuple_of sizes) (range_with_len 0 (data_count sizes)) → length values ≡ data_count sizes
length-values sizes values is = ap length is ∙ length-map-range_with_len (tuple_of sizes) 0 (data_count sizes)

module _ (sizes : List ℕ) (case : Case) (d : ℕ) (h : d < data_count sizes) where
  pub length-least_values : length (least_values sizes case.sets (split sizes d)) ≡ length sizes
  unfolding least_values
  length-least_values = length-map-range_with_len (λ b. least_after (term_for case.sets b) (slice_index sizes b) (split sizes d) (slice_index (split sizes d) b)) 0 (length sizes)

  -- a case that assigns nothing leaves the data as they are
  pub number_unassigned : case.sets ≡ [] → d ≡ joint sizes (least_values sizes case.sets (split sizes d))
  number_unassigned none =
      sym (joint-split sizes d h)
      ∙ joint-same sizes (split sizes d) (least_values sizes case.sets (split sizes d)) (omega (arith, length-split sizes d)) (omega (arith, length-least_values)) (λ a k.
      sym (at-least_values sizes case.sets (split sizes d) a k
      ∙ ap (λ sets. least_after (term_for sets a) (slice_index sizes a) (split sizes d) (slice_index (split sizes d) a)) none))

  -- the number of what has the least values
  pub number_assigned : (old new : List ℕ) → length sizes ≤ length new → old ≡ tuple_of sizes d →
      ((a : ℕ) → a < length sizes → slice_index new a ≡ least_after (term_for case.sets a) (slice_index sizes a) old (slice_index old a)) →
      joint sizes new ≡ joint sizes (least_values sizes case.sets (split sizes d))
  number_assigned old new long is least =
      joint-same sizes new (least_values sizes case.sets (split sizes d)) long (omega (arith, length-least_values)) (λ a k.
      tuple_least sizes case d old new is least a k ∙ sym (at-least_values sizes case.sets (split sizes d) a k))
