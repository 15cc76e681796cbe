-- Laws of the relations of cases: what they read and change, and where they are total.
use Rattle.std.proofs.Common.{◌≡◌, ⊎_elim, ℕ, ◌+◌, ◌-◌, ◌<◌, ◌≤◌, min, ◌&&◌, ◌==◌, nat_lt, List, [], ◌∷◌, length, slice_index, slice_index_or, Option, Some, None, IsTrue, refl, sym, subst, ap, ap₂, ◌∙◌, arith, eqb-true, eq-eqb, lt-ltb}
use Rattle.std.proofs.lemmas.Bool.{and_parts, and_from, or_cases, or_left, or_right, cases_lt, cases_Bool, true≢false}
use Rattle.std.proofs.lemmas.List.{get_or_past}
use Rattle.std.proofs.lemmas.List.Elements.{All-head, All-tail, All-weaker}
use Rattle.std.specs.List.{All, list_any}
use Rattle.nego_base.specs.Members.{is_in}
use Rattle.nego_data.specs.declared.cases.Operand.{Operand}
use Rattle.nego_data.specs.declared.cases.Operand.TheVariants as operands
use Rattle.nego_data.specs.declared.cases.Term.{Term}
use Rattle.nego_data.specs.declared.cases.Term.TheVariants as terms
use Rattle.nego_data.specs.declared.cases.Test.{Test}
use Rattle.nego_data.specs.declared.cases.Case.{Case}
use Rattle.nego_data.specs.Data.{data_count, split, joint}
use Rattle.nego_data.specs.Cases.{rows_of, compares, operand_value, test_holds, gives, term_for, covers, agent_follows, agents_follow, case_relates, relates}
use Rattle.nego_data.specs.CaseForm.{operand_agents, term_agents, AreAmong, NamesOnly, AssignsBelow, IsCovered}
use Rattle.nego_data.specs.Given.{least_values}
use Rattle.nego_data.specs.Locality.{AgreeOn, ActsOn}
use Rattle.nego_base.proofs.BoolLaws.{passing_item, any_passes, all_pass}
use Rattle.nego_data.proofs.JointData.{length-split, split-below, split-values, AreValues, joint-below, split-joint}
use Rattle.nego_data.proofs.Assigned.{agents_follow-at, agents_follow_from, follow_from, term_for-some, term_for-fits, least_after-follows, at-least_values, least_values-values}
use Rattle.nego_data.proofs.Tables.{relates-on_data, rows_of-relates}
use Rattle.nego_data.proofs.Acting.{ActsOn-same}

-- Values of which these agents have the same.
abbrev pub SameAt : List ℕ → List ℕ → List ℕ → Type 0
SameAt agents one two = (a : ℕ) → IsTrue (is_in a agents) → slice_index one a ≡ slice_index two a

-- joint data that agree on agents have the same values of these
pub SameAt-from_agree : (sizes agents : List ℕ) (d e : ℕ) → AgreeOn sizes agents d e → SameAt agents (split sizes d) (split sizes e)
SameAt-from_agree sizes agents d e h a k = ⊎_elim (λ l. h a l k) past (cases_lt a (length sizes))
  where
    past : length sizes ≤ a → slice_index (split sizes d) a ≡ slice_index (split sizes e) a
    past l = get_or_past (split sizes d) a 0 (subst (λ n. n ≤ a) (sym (length-split sizes d)) l)
        ∙ sym (get_or_past (split sizes e) a 0 (subst (λ n. n ≤ a) (sym (length-split sizes e)) l))

-- a comparison holds of values where it holds of others that are the same at whom it names
pub test_holds-same : (agents : List ℕ) (test : Test) (one two : List ℕ) → AreAmong agents (test.agent.0 ∷ operand_agents test.right) → SameAt agents one two → test_holds test one ≡ test_holds test two
test_holds-same agents test one two named same =
    ap₂ (compares test.op) (same test.agent.0 (All-head (λ a. IsTrue (is_in a agents)) test.agent.0 (operand_agents test.right) named))
    (right test.right (All-tail (λ a. IsTrue (is_in a agents)) test.agent.0 (operand_agents test.right) named))
  where
    right : (operand : Operand) → AreAmong agents (operand_agents operand) → operand_value operand one ≡ operand_value operand two
    right (operands.Number n) k = refl
    right (operands.Value b) k = same b.0 (All-head (λ a. IsTrue (is_in a agents)) b.0 [] k)

-- a term gives the same for values that are the same at whom it names
pub gives-same : (agents : List ℕ) (term : Term) (size : ℕ) (one two : List ℕ) (value : ℕ) → AreAmong agents (term_agents term) → SameAt agents one two → gives term size one value ≡ gives term size two value
gives-same agents terms.Any size one two value named same = refl
gives-same agents (terms.Number n) size one two value named same = refl
gives-same agents (terms.Plus b n) size one two value named same =
    ap (λ x. value == min (x + n) (size - 1)) (same b.0 (All-head (λ a. IsTrue (is_in a agents)) b.0 [] named))
gives-same agents (terms.Minus b n) size one two value named same =
    ap (λ x. value == min (x - n) (size - 1)) (same b.0 (All-head (λ a. IsTrue (is_in a agents)) b.0 [] named))

-- a case covers values where it covers others that are the same at whom it names
pub covers-same : (agents : List ℕ) (case : Case) (one two : List ℕ) → NamesOnly agents case → SameAt agents one two → IsTrue (covers case one) → IsTrue (covers case two)
covers-same agents case one two names same h =
    all_pass (λ test. test_holds test one) (λ test. test_holds test two) case.tests h
    (All-weaker (λ test. AreAmong agents (test.agent.0 ∷ operand_agents test.right)) (λ test. IsTrue (test_holds test one) → IsTrue (test_holds test two))
    (λ test named k. sym (test_holds-same agents test one two named same) ∙ k) case.tests names.tests)

-- who is not named is assigned nothing
pub term_for-stranger : (agents : List ℕ) (case : Case) (a : ℕ) → NamesOnly agents case → ¬ IsTrue (is_in a agents) → term_for case.sets a ≡ None
term_for-stranger agents case a names other = go (term_for case.sets a) refl
  where
    go : (o : Option Term) → term_for case.sets a ≡ o → o ≡ None
    go None e = refl
    go (Some term) e =
        let h = term_for-some (λ set. AreAmong agents (set.agent.0 ∷ term_agents set.term)) case.sets a term names.sets e in
        absurd (other (subst (λ b. IsTrue (is_in b agents)) h.2 (All-head (λ b. IsTrue (is_in b agents)) h.0.agent.0 (term_agents h.0.term) h.1)))

-- who is not named keeps the value
pub case_relates-changes : (sizes agents : List ℕ) (case : Case) (old new : List ℕ) → NamesOnly agents case → IsTrue (case_relates sizes case old new) →
    (a : ℕ) → a < length sizes → ¬ IsTrue (is_in a agents) → slice_index old a ≡ slice_index new a
case_relates-changes sizes agents case old new names h a k other =
    let all = (and_parts (covers case old) (agents_follow 0 sizes case.sets old new) h).1 in
    let e : 0 + a ≡ a = omega arith in
    let here = subst (λ b. IsTrue (agent_follows (term_for case.sets b) (slice_index sizes a) old (slice_index old b) (slice_index new b))) e (agents_follow-at 0 sizes case.sets old new all a k) in
    let kept = subst (λ o. IsTrue (agent_follows o (slice_index sizes a) old (slice_index old a) (slice_index new a))) (term_for-stranger agents case a names other) here in
    sym (eqb-true (slice_index new a) (slice_index old a) kept)

-- a case relates values where it relates others that are the same at whom it names, and all others keep theirs
pub case_relates-reads : (sizes agents : List ℕ) (case : Case) (old new old' new' : List ℕ) → NamesOnly agents case → SameAt agents old old' → SameAt agents new new' →
    ((a : ℕ) → a < length sizes → ¬ IsTrue (is_in a agents) → slice_index old' a ≡ slice_index new' a) → IsTrue (case_relates sizes case old new) → IsTrue (case_relates sizes case old' new')
case_relates-reads sizes agents case old new old' new' names same same' off h =
    and_from (covers case old') (agents_follow 0 sizes case.sets old' new') (covers-same agents case old old' names same parts.0) (agents_follow_from 0 sizes case.sets old' new' (λ a k. each (0 + a) a refl k (agents_follow-at 0 sizes case.sets old new parts.1 a k)))
  where
    parts : IsTrue (covers case old) × IsTrue (agents_follow 0 sizes case.sets old new)
    parts = and_parts (covers case old) (agents_follow 0 sizes case.sets old new) h

    each : (b a : ℕ) → b ≡ 0 + a → a < length sizes → IsTrue (agent_follows (term_for case.sets b) (slice_index sizes a) old (slice_index old b) (slice_index new b)) →
        IsTrue (agent_follows (term_for case.sets b) (slice_index sizes a) old' (slice_index old' b) (slice_index new' b))
    each b a e k q = go (term_for case.sets b) refl q
      where
        inside : b < length sizes
        inside = omega (arith, e, k)

        go : (o : Option Term) → term_for case.sets b ≡ o → IsTrue (agent_follows o (slice_index sizes a) old (slice_index old b) (slice_index new b)) → IsTrue (agent_follows o (slice_index sizes a) old' (slice_index old' b) (slice_index new' b))
        go None t r = ⊎_elim
            (λ party. eq-eqb (slice_index new' b) (slice_index old' b) (sym (same' b party) ∙ (eqb-true (slice_index new b) (slice_index old b) r ∙ same b party)))
            (λ other. eq-eqb (slice_index new' b) (slice_index old' b) (sym (off b inside (λ party. true≢false (sym party ∙ other)))))
            (cases_Bool (is_in b agents))
        go (Some term) t r =
            let s = term_for-some (λ set. AreAmong agents (set.agent.0 ∷ term_agents set.term)) case.sets b term names.sets t in
            let party = subst (λ x. IsTrue (is_in x agents)) s.2 (All-head (λ x. IsTrue (is_in x agents)) s.0.agent.0 (term_agents s.0.term) s.1) in
            let named = subst (λ x. AreAmong agents (term_agents x)) s.3 (All-tail (λ x. IsTrue (is_in x agents)) s.0.agent.0 (term_agents s.0.term) s.1) in
            sym (gives-same agents term (slice_index sizes a) old old' (slice_index new' b) named same)
            ∙ subst (λ v. IsTrue (gives term (slice_index sizes a) old v)) (same' b party) r

-- cases that name some agents alone read and change the values of these alone
pub relates-acts : (sizes agents : List ℕ) (cases : List Case) → All (NamesOnly agents) cases → ActsOn sizes agents (λ d e. IsTrue (relates sizes cases d e))
relates-acts sizes agents cases names = record {
  stays = λ d e h k. (relates-on_data sizes cases d e k).1;
  changes = λ d e h k.
      let c = passing_item (λ case. case_relates sizes case (split sizes d) (split sizes e)) (NamesOnly agents) cases (relates-on_data sizes cases d e k).2 names in
      case_relates-changes sizes agents c.0 (split sizes d) (split sizes e) c.2 c.1;
  reads = λ d e d' e' h k h' k' on on' off.
      and_from (nat_lt d' (data_count sizes)) (nat_lt e' (data_count sizes) && list_any (λ case. case_relates sizes case (split sizes d') (split sizes e')) cases)
      (lt-ltb d' (data_count sizes) h')
      (and_from (nat_lt e' (data_count sizes)) (list_any (λ case. case_relates sizes case (split sizes d') (split sizes e')) cases)
      (lt-ltb e' (data_count sizes) k')
      (any_passes (λ case. case_relates sizes case (split sizes d) (split sizes e)) (λ case. case_relates sizes case (split sizes d') (split sizes e')) cases (relates-on_data sizes cases d e k).2
      (All-weaker (NamesOnly agents) (λ case. IsTrue (case_relates sizes case (split sizes d) (split sizes e)) → IsTrue (case_relates sizes case (split sizes d') (split sizes e')))
      (λ case n. case_relates-reads sizes agents case (split sizes d) (split sizes e) (split sizes d') (split sizes e') n (SameAt-from_agree sizes agents d d' on) (SameAt-from_agree sizes agents e e' on') off) cases names)));
}

-- a case that covers values, and whose numbers fit, relates them to some
pub case_relates-some : (sizes : List ℕ) (case : Case) (d : ℕ) → d < data_count sizes → AssignsBelow sizes case → IsTrue (covers case (split sizes d)) →
    (e : ℕ) × (e < data_count sizes) × IsTrue (case_relates sizes case (split sizes d) (split sizes e))
case_relates-some sizes case d h fits covered = (
  joint sizes new,
  joint-below sizes new values,
  subst (λ v. IsTrue (case_relates sizes case old v)) (sym (split-joint sizes new values))
      (and_from (covers case old) (agents_follow 0 sizes case.sets old new) covered (follow_from sizes case.sets old new follows)),
)
  where
    old : List ℕ
    old = split sizes d

    new : List ℕ
    new = least_values sizes case.sets old

    follows : (a : ℕ) → a < length sizes → IsTrue (agent_follows (term_for case.sets a) (slice_index sizes a) old (slice_index old a) (slice_index new a))
    follows a k =
        subst (λ v. IsTrue (agent_follows (term_for case.sets a) (slice_index sizes a) old (slice_index old a) v)) (sym (at-least_values sizes case.sets old a k))
        (least_after-follows (term_for case.sets a) (slice_index sizes a) old (slice_index old a) (split-below sizes d a h k) (term_for-fits sizes case a fits))

    values : AreValues sizes new
    values = least_values-values sizes case old fits (split-values sizes d h)

-- some case relates joint data that some case covers
some_case_relates : (sizes : List ℕ) (cases : List Case) (d : ℕ) → d < data_count sizes → All (AssignsBelow sizes) cases → IsCovered sizes cases d →
    (e : ℕ) × (e < data_count sizes) × IsTrue (list_any (λ case. case_relates sizes case (split sizes d) (split sizes e)) cases)
some_case_relates sizes [] d h fits covered = absurd (true≢false (sym covered))
some_case_relates sizes (case ∷ cases) d h fits covered =
    ⊎_elim
    (λ c. let k = case_relates-some sizes case d h (All-head (AssignsBelow sizes) case cases fits) c in
    (k.0, k.1, or_left (case_relates sizes case (split sizes d) (split sizes k.0)) (list_any (λ x. case_relates sizes x (split sizes d) (split sizes k.0)) cases) k.2))
    (λ c. let k = some_case_relates sizes cases d h (All-tail (AssignsBelow sizes) case cases fits) c in
    (k.0, k.1, or_right (case_relates sizes case (split sizes d) (split sizes k.0)) (list_any (λ x. case_relates sizes x (split sizes d) (split sizes k.0)) cases) k.2))
    (or_cases (covers case (split sizes d)) (list_any (λ x. covers x (split sizes d)) cases) covered)

-- joint data that some case covers are related to some, where the cases' numbers fit
pub related_from_covered : (sizes : List ℕ) (cases : List Case) (d : ℕ) → d < data_count sizes → All (AssignsBelow sizes) cases → IsCovered sizes cases d → (e : ℕ) × IsTrue (relates sizes cases d e)
related_from_covered sizes cases d h fits covered =
    let k = some_case_relates sizes cases d h fits covered in (
      k.0,
      and_from (nat_lt d (data_count sizes)) (nat_lt k.0 (data_count sizes) && list_any (λ case. case_relates sizes case (split sizes d) (split sizes k.0)) cases)
          (lt-ltb d (data_count sizes) h)
          (and_from (nat_lt k.0 (data_count sizes)) (list_any (λ case. case_relates sizes case (split sizes d) (split sizes k.0)) cases) (lt-ltb k.0 (data_count sizes) k.1) k.2),
    )

-- joint data that are related to some are covered by some case
pub covered_from_related : (sizes : List ℕ) (cases : List Case) (d e : ℕ) → IsTrue (relates sizes cases d e) → IsCovered sizes cases d
covered_from_related sizes cases d e h =
    any_passes (λ case. case_relates sizes case (split sizes d) (split sizes e)) (λ case. covers case (split sizes d)) cases (relates-on_data sizes cases d e h).2
    (λ k x l q. (and_parts (covers (slice_index_or cases k x) (split sizes d)) (agents_follow 0 sizes (slice_index_or cases k x).sets (split sizes d) (split sizes e)) q).0)

-- the table of cases that name some agents alone reads and changes the values of these alone
pub rows_of-acts : (sizes agents : List ℕ) (cases : List Case) → All (NamesOnly agents) cases → ActsOn sizes agents (λ d e. IsTrue (is_in e (slice_index_or (rows_of sizes cases) d [])))
rows_of-acts sizes agents cases names =
    ActsOn-same sizes agents (λ d e. IsTrue (relates sizes cases d e)) (λ d e. IsTrue (is_in e (slice_index_or (rows_of sizes cases) d [])))
    (λ d e. (λ h. rows_of-relates sizes cases d e ∙ h, λ h. sym (rows_of-relates sizes cases d e) ∙ h)) (relates-acts sizes agents cases names)

-- the table of cases whose numbers fit has in a row something where some case covers the data
pub rows_of-some : (sizes : List ℕ) (cases : List Case) (d : ℕ) → d < data_count sizes → All (AssignsBelow sizes) cases → IsCovered sizes cases d → (e : ℕ) × IsTrue (is_in e (slice_index_or (rows_of sizes cases) d []))
rows_of-some sizes cases d h fits covered =
    let k = related_from_covered sizes cases d h fits covered in
    (k.0, rows_of-relates sizes cases d k.0 ∙ k.1)
