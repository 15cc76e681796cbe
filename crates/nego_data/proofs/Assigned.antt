-- What is assigned to agents, and what agents have who follow it.
use Rattle.std.proofs.Common.{◌≡◌, ◌≢◌, inl, inr, ℕ, zero, suc, ◌+◌, ◌-◌, ◌<◌, ◌≤◌, min, Bool, true, false, cond, ◌&&◌, ◌||◌, ◌==◌, List, [], ◌∷◌, ◌++◌, length, take, set, slice_index, get_or, Option, Some, None, IsTrue, refl, sym, subst, ap, ap₂, ◌∙◌, arith, eqb-true, eq-eqb, lt-ltb, le_of_suc-le-suc, suc-le-suc}
use Rattle.std.proofs.lemmas.Bool.{and_parts, and_from, ne_eqb, cases_eq, cond-true, cond-false}
use Rattle.std.proofs.lemmas.Bool.Decides.{nat_tests}
use Rattle.std.proofs.lemmas.Option.{none-some, same_Some}
use Rattle.std.proofs.lemmas.List.{length-take-le, get_or-take, get_or_default, get_or-set_same, get_or-set_other, take_more}
use Rattle.std.proofs.lemmas.List.FromFn.{length-map-range_with_len, get_or-map-range_with_len}
use Rattle.std.proofs.lemmas.List.Elements.{All-head, All-tail}
use Rattle.std.specs.List.{All, AllPairs}
use Rattle.std.specs.Bool.{⊤}
use Rattle.nego_base.specs.Members.{is_in, with_member}
use Rattle.nego_base.proofs.Members.{is_in-with}
use Rattle.nego_data.specs.declared.cases.Term.{Term}
use Rattle.nego_data.specs.declared.cases.Term.TheVariants as terms
use Rattle.nego_data.specs.declared.cases.Set.{Set}
use Rattle.nego_data.specs.declared.cases.Case.{Case}
use Rattle.nego_data.specs.Cases.{term_for, agent_follows, agents_follow}
use Rattle.nego_data.specs.CaseForm.{FitsSize, AssignsBelow, AssignsOnce}
use Rattle.nego_data.specs.Sizes.{AreBelow}
use Rattle.nego_data.specs.Given.{least_values, least_given, least_after, is_any, is_free}
use Rattle.nego_data.proofs.JointData.{AreValues}

-- each agent follows its assignment where all do
pub agents_follow-at : (n : ℕ) (sizes : List ℕ) (sets : List Set) (old new : List ℕ) → IsTrue (agents_follow n sizes sets old new) → (a : ℕ) → a < length sizes →
    IsTrue (agent_follows (term_for sets (n + a)) (slice_index sizes a) old (slice_index old (n + a)) (slice_index new (n + a)))
agents_follow-at n [] sets old new h a k = absurd (let no_more : ⊥ = omega (arith, k) in no_more)
agents_follow-at n (size ∷ sizes) sets old new h zero k =
    let e : n ≡ n + 0 = omega arith in
    subst (λ m. IsTrue (agent_follows (term_for sets m) size old (slice_index old m) (slice_index new m))) e
    (and_parts (agent_follows (term_for sets n) size old (slice_index old n) (slice_index new n)) (agents_follow (n + 1) sizes sets old new) h).0
agents_follow-at n (size ∷ sizes) sets old new h (suc a) k =
    let e : n + 1 + a ≡ n + suc a = omega arith in
    subst (λ m. IsTrue (agent_follows (term_for sets m) (slice_index sizes a) old (slice_index old m) (slice_index new m))) e
    (agents_follow-at (n + 1) sizes sets old new
    (and_parts (agent_follows (term_for sets n) size old (slice_index old n) (slice_index new n)) (agents_follow (n + 1) sizes sets old new) h).1
    a (le_of_suc-le-suc k))

-- all agents follow their assignments where each does
pub agents_follow_from : (n : ℕ) (sizes : List ℕ) (sets : List Set) (old new : List ℕ) →
    ((a : ℕ) → a < length sizes → IsTrue (agent_follows (term_for sets (n + a)) (slice_index sizes a) old (slice_index old (n + a)) (slice_index new (n + a)))) →
    IsTrue (agents_follow n sizes sets old new)
agents_follow_from n [] sets old new h = refl
agents_follow_from n (size ∷ sizes) sets old new h =
    let first : n + 0 ≡ n = omega arith in
    and_from (agent_follows (term_for sets n) size old (slice_index old n) (slice_index new n)) (agents_follow (n + 1) sizes sets old new)
    (subst (λ m. IsTrue (agent_follows (term_for sets m) size old (slice_index old m) (slice_index new m))) first (h 0 (omega arith)))
    (agents_follow_from (n + 1) sizes sets old new (λ a k.
    let e : n + suc a ≡ n + 1 + a = omega arith in
    subst (λ m. IsTrue (agent_follows (term_for sets m) (slice_index sizes a) old (slice_index old m) (slice_index new m))) e (h (suc a) (suc-le-suc k))))

-- where all agents follow their assignments, each does
pub follow-at : (sizes : List ℕ) (sets : List Set) (old new : List ℕ) → IsTrue (agents_follow 0 sizes sets old new) → (a : ℕ) → a < length sizes →
    IsTrue (agent_follows (term_for sets a) (slice_index sizes a) old (slice_index old a) (slice_index new a))
follow-at sizes sets old new h a k =
    let e : 0 + a ≡ a = omega arith in
    subst (λ m. IsTrue (agent_follows (term_for sets m) (slice_index sizes a) old (slice_index old m) (slice_index new m))) e (agents_follow-at 0 sizes sets old new h a k)

-- where each agent follows its assignment, all do
pub follow_from : (sizes : List ℕ) (sets : List Set) (old new : List ℕ) →
    ((a : ℕ) → a < length sizes → IsTrue (agent_follows (term_for sets a) (slice_index sizes a) old (slice_index old a) (slice_index new a))) → IsTrue (agents_follow 0 sizes sets old new)
follow_from sizes sets old new h = agents_follow_from 0 sizes sets old new (λ a k.
    let e : a ≡ 0 + a = omega arith in
    subst (λ m. IsTrue (agent_follows (term_for sets m) (slice_index sizes a) old (slice_index old m) (slice_index new m))) e (h a k))

-- what is assigned to an agent is assigned by some assignment to it
pub term_for-some : (P : Set → Type 0) (sets : List Set) (a : ℕ) (term : Term) → All P sets → term_for sets a ≡ Some term → (set : Set) × P set × (set.agent.0 ≡ a) × (set.term ≡ term)
term_for-some P [] a term all e = absurd (none-some term e)
term_for-some P (set ∷ sets) a term all e = go (set.agent.0 == a) refl e (term_for-some P sets a term (All-tail P set sets all))
  where
    go : (b : Bool) → (set.agent.0 == a) ≡ b → cond b (Some set.term) (term_for sets a) ≡ Some term →
        (term_for sets a ≡ Some term → (set : Set) × P set × (set.agent.0 ≡ a) × (set.term ≡ term)) → (set : Set) × P set × (set.agent.0 ≡ a) × (set.term ≡ term)
    go true k q more = (set, All-head P set sets all, eqb-true set.agent.0 a k, same_Some set.term term q)
    go false k q more = more q

-- ---- assignments one after another

-- an assignment to another agent changes nothing for this one
pub term_for-push_other : (sets : List Set) (set : Set) (a : ℕ) → set.agent.0 ≢ a → term_for (sets ++ set ∷ []) a ≡ term_for sets a
term_for-push_other [] set a other = cond-false (set.agent.0 == a) (Some set.term) None (ne_eqb set.agent.0 a other)
term_for-push_other (first ∷ sets) set a other = ap (cond (first.agent.0 == a) (Some first.term)) (term_for-push_other sets set a other)

-- an assignment to an agent who was assigned nothing
pub term_for-push_same : (sets : List Set) (set : Set) → term_for sets set.agent.0 ≡ None → term_for (sets ++ set ∷ []) set.agent.0 ≡ Some set.term
term_for-push_same [] set h = cond-true (set.agent.0 == set.agent.0) (Some set.term) None (eq-eqb set.agent.0 set.agent.0 refl)
term_for-push_same (first ∷ sets) set h = elim (cases_eq first.agent.0 set.agent.0) [
  | inl same ↦ absurd (none-some first.term (sym h ∙ cond-true (first.agent.0 == set.agent.0) (Some first.term) (term_for sets set.agent.0) (eq-eqb first.agent.0 set.agent.0 same)))
  | inr other ↦
      let e : (first.agent.0 == set.agent.0) ≡ false = ne_eqb first.agent.0 set.agent.0 other in
      cond-false (first.agent.0 == set.agent.0) (Some first.term) (term_for (sets ++ set ∷ []) set.agent.0) e
      ∙ term_for-push_same sets set (sym (cond-false (first.agent.0 == set.agent.0) (Some first.term) (term_for sets set.agent.0) e) ∙ h)
]

-- an agent to whom nothing is assigned
pub term_for-none : (sets : List Set) (a : ℕ) → ((k : ℕ) (d : Set) → k < length sets → (get_or sets k d).agent.0 ≢ a) → term_for sets a ≡ None
term_for-none [] a h = refl
term_for-none (set ∷ sets) a h =
    cond-false (set.agent.0 == a) (Some set.term) (term_for sets a) (ne_eqb set.agent.0 a (h 0 set (omega arith)))
    ∙ term_for-none sets a (λ k d l. h (suc k) d (suc-le-suc l))

-- no earlier assignment is to the agent of one
pub term_for-before : (case : Case) (i : ℕ) (d : Set) → AssignsOnce case → i < length case.sets → term_for (take i case.sets) (get_or case.sets i d).agent.0 ≡ None
term_for-before case i d once h = term_for-none (take i case.sets) (get_or case.sets i d).agent.0 (λ k e l.
    let below : k < i = subst (λ n. k < n) (length-take-le i case.sets (omega (arith, h))) l in
    subst (λ x. x.agent.0 ≢ (get_or case.sets i d).agent.0) (sym (get_or-take i case.sets k e below ∙ get_or_default case.sets k e d (omega (arith, below, h)))) (once k i d below h))

-- ---- the least values

-- What is assigned fits an agent of this size.
abbrev pub Fits : Option Term → ℕ → Type 0
Fits None size = ⊤
Fits (Some term) size = FitsSize term size

-- what is assigned to an agent fits its size
pub term_for-fits : (sizes : List ℕ) (case : Case) (a : ℕ) → AssignsBelow sizes case → Fits (term_for case.sets a) (slice_index sizes a)
term_for-fits sizes case a fits = go (term_for case.sets a) refl
  where
    go : (o : Option Term) → term_for case.sets a ≡ o → Fits o (slice_index sizes a)
    go None e = tt
    go (Some term) e =
        let s = term_for-some (λ set. FitsSize set.term (slice_index sizes set.agent.0)) case.sets a term fits e in
        subst (λ t. FitsSize t (slice_index sizes a)) s.3 (subst (λ b. FitsSize s.0.term (slice_index sizes b)) s.2 s.1)

-- an agent may have its least value
pub least_after-follows : (o : Option Term) (size : ℕ) (values : List ℕ) (old : ℕ) → old < size → Fits o size → IsTrue (agent_follows o size values old (least_after o size values old))
least_after-follows None size values old h fits = eq-eqb old old refl
least_after-follows (Some terms.Any) size values old h fits = lt-ltb 0 size (omega (arith, h))
least_after-follows (Some (terms.Number n)) size values old h fits = eq-eqb n n refl
least_after-follows (Some (terms.Plus b n)) size values old h fits = eq-eqb (min (slice_index values b.0 + n) (size - 1)) (min (slice_index values b.0 + n) (size - 1)) refl
least_after-follows (Some (terms.Minus b n)) size values old h fits = eq-eqb (min (slice_index values b.0 - n) (size - 1)) (min (slice_index values b.0 - n) (size - 1)) refl

-- an agent's least value is below its size
pub least_after-below : (o : Option Term) (size : ℕ) (values : List ℕ) (old : ℕ) → old < size → Fits o size → least_after o size values old < size
least_after-below None size values old h fits = h
least_after-below (Some terms.Any) size values old h fits = omega (arith, h)
least_after-below (Some (terms.Number n)) size values old h fits = fits
least_after-below (Some (terms.Plus b n)) size values old h fits = omega (arith, h)
least_after-below (Some (terms.Minus b n)) size values old h fits = omega (arith, h)

-- the least value of an agent
pub at-least_values : (sizes : List ℕ) (sets : List Set) (old : List ℕ) (a : ℕ) → a < length sizes →
    slice_index (least_values sizes sets old) a ≡ least_after (term_for sets a) (slice_index sizes a) old (slice_index old a)
unfolding least_values
at-least_values sizes sets old a h =
    get_or-map-range_with_len (λ b. least_after (term_for sets b) (slice_index sizes b) old (slice_index old b)) 0 (length sizes) a a 0 h (omega arith)

-- the least values are values
pub least_values-values : (sizes : List ℕ) (case : Case) (old : List ℕ) → AssignsBelow sizes case → AreValues sizes old → AreValues sizes (least_values sizes case.sets old)
unfolding least_values
least_values-values sizes case old fits values = record {
  as_many = length-map-range_with_len (λ b. least_after (term_for case.sets b) (slice_index sizes b) old (slice_index old b)) 0 (length sizes);
  below = λ a h. subst (λ n. n < slice_index sizes a) (sym (at-least_values sizes case.sets old a h))
      (least_after-below (term_for case.sets a) (slice_index sizes a) old (slice_index old a) (values.below a h) (term_for-fits sizes case a fits));
}

-- ---- one assignment more

-- a case of these assignments
abbrev pub of_sets : List Set → Case
of_sets sets = record { tests = []; sets = sets }

-- assignments that are those of a case assign once where the case does
pub of_sets-once : (sets : List Set) (case : Case) → sets ≡ case.sets → AssignsOnce case → AssignsOnce (of_sets sets)
of_sets-once sets case e once = subst (AllPairs (λ (one two : Set). one.agent.0 ≢ two.agent.0)) (sym e) once

-- least values of agents whose numbers fit are below the sizes
pub least_kept_below : (sizes : List ℕ) (case : Case) (sets : List Set) (old new : List ℕ) → sets ≡ case.sets → AssignsBelow sizes case → AreBelow sizes old →
    ((a : ℕ) → a < length sizes → slice_index new a ≡ least_after (term_for sets a) (slice_index sizes a) old (slice_index old a)) → AreBelow sizes new
least_kept_below sizes case sets old new e fits below least a h =
    subst (λ n. n < slice_index sizes a) (sym (least a h ∙ ap (λ s. least_after (term_for s a) (slice_index sizes a) old (slice_index old a)) e))
    (least_after-below (term_for case.sets a) (slice_index sizes a) old (slice_index old a) (below a h) (term_for-fits sizes case a fits))

module _ (case : Case) (i : ℕ) (d : Set) (once : AssignsOnce case) (h : i < length case.sets) where
  -- what is assigned to the agent of the next assignment
  pub next_assigned : (a : ℕ) → a ≡ (get_or case.sets i d).agent.0 → term_for (take (i + 1) case.sets) a ≡ Some (get_or case.sets i d).term
  next_assigned a same =
      ap (term_for (take (i + 1) case.sets)) same ∙ ap (λ sets. term_for sets (get_or case.sets i d).agent.0) (take_more case.sets i d h)
      ∙ term_for-push_same (take i case.sets) (get_or case.sets i d) (term_for-before case i d once h)

  -- what is assigned to all others
  pub next_kept : (a : ℕ) → (a ≡ (get_or case.sets i d).agent.0 → ⊥) → term_for (take (i + 1) case.sets) a ≡ term_for (take i case.sets) a
  next_kept a other =
      ap (λ sets. term_for sets a) (take_more case.sets i d h) ∙ term_for-push_other (take i case.sets) (get_or case.sets i d) a (λ e. other (sym e))

  -- the least value of an agent after the next assignment, written over the values so far
  pub next_least : (sizes old new : List ℕ) (value : ℕ) → length sizes ≤ length new → (get_or case.sets i d).agent.0 < length sizes →
      value ≡ least_given (get_or case.sets i d).term (slice_index sizes (get_or case.sets i d).agent.0) old →
      ((a : ℕ) → a < length sizes → slice_index new a ≡ least_after (term_for (take i case.sets) a) (slice_index sizes a) old (slice_index old a)) →
      (a : ℕ) → a < length sizes → slice_index (set new (get_or case.sets i d).agent.0 value) a ≡ least_after (term_for (take (i + 1) case.sets) a) (slice_index sizes a) old (slice_index old a)
  next_least sizes old new value enough inside is before a k = elim (cases_eq a (get_or case.sets i d).agent.0) [
    | inl same ↦
        ap (slice_index (set new (get_or case.sets i d).agent.0 value)) same
        ∙ get_or-set_same new (get_or case.sets i d).agent.0 value 0 (omega (arith, inside, enough))
        ∙ is ∙ ap (λ b. least_given (get_or case.sets i d).term (slice_index sizes b) old) (sym same)
        ∙ ap (λ o. least_after o (slice_index sizes a) old (slice_index old a)) (sym (next_assigned a same))
    | inr other ↦
        get_or-set_other new (get_or case.sets i d).agent.0 a value 0 other ∙ before a k
        ∙ ap (λ o. least_after o (slice_index sizes a) old (slice_index old a)) (sym (next_kept a other))
  ]

  -- who is free after the next assignment
  pub next_free : (free : List ℕ) → ((a : ℕ) → is_in a free ≡ is_free (term_for (take i case.sets) a)) →
      (a : ℕ) → is_free (term_for (take (i + 1) case.sets) a) ≡ (is_in a free || (a == (get_or case.sets i d).agent.0 && is_any (get_or case.sets i d).term))
  next_free free before a = elim (cases_eq a (get_or case.sets i d).agent.0) [
    | inl same ↦
        ap is_free (next_assigned a same) ∙ sym (ap₂ (λ b c. b || (c && is_any (get_or case.sets i d).term))
        (before a ∙ ap (λ b. is_free (term_for (take i case.sets) b)) same ∙ ap is_free (term_for-before case i d once h)) (eq-eqb a (get_or case.sets i d).agent.0 same))
    | inr other ↦
        ap is_free (next_kept a other) ∙ sym (before a) ∙ untouched (is_in a free)
        ∙ ap (λ b. is_in a free || (b && is_any (get_or case.sets i d).term)) (sym (ne_eqb a (get_or case.sets i d).agent.0 other))
  ]
    where
      untouched : (b : Bool) → b ≡ (b || (false && is_any (get_or case.sets i d).term))
      untouched true = refl
      untouched false = refl

  -- the free agents once the next assignment gives any value
  pub next_free_with : (free : List ℕ) → ((a : ℕ) → is_in a free ≡ is_free (term_for (take i case.sets) a)) → is_any (get_or case.sets i d).term ≡ true →
      (a : ℕ) → is_in a (with_member (get_or case.sets i d).agent.0 free) ≡ is_free (term_for (take (i + 1) case.sets) a)
  next_free_with free before any a =
      is_in-with a (get_or case.sets i d).agent.0 free
      ∙ turned (get_or case.sets i d).agent.0 (is_in a free) (is_any (get_or case.sets i d).term) any
      ∙ sym (next_free free before a)
    where
      turned : (b : ℕ) (c e : Bool) → e ≡ true → (b == a || c) ≡ (c || (a == b && e))
      turned b c e h = grind (arith, nat_tests)

  -- the free agents once the next assignment gives no other value
  pub next_free_kept : (free : List ℕ) → ((a : ℕ) → is_in a free ≡ is_free (term_for (take i case.sets) a)) → is_any (get_or case.sets i d).term ≡ false →
      (a : ℕ) → is_in a free ≡ is_free (term_for (take (i + 1) case.sets) a)
  next_free_kept free before other a = kept (get_or case.sets i d).agent.0 (is_in a free) (is_any (get_or case.sets i d).term) other ∙ sym (next_free free before a)
    where
      kept : (b : ℕ) (c e : Bool) → e ≡ false → c ≡ (c || (a == b && e))
      kept b c e h = grind (arith, nat_tests)
