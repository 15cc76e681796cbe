-- A work in which an outcome has become itself and then each outcome of the atom that it enters: which outcomes there
-- are, and what is found by their numbers.
use Rattle.std.proofs.Common.{◌≡◌, ◌≢◌, ◌⊎◌, inl, inr, ⊎_elim, ℕ, zero, suc, ◌+◌, ◌<◌, ◌≤◌, Bool, true, false, not, ◌==◌, ◌&&◌, cond, if◌then◌else◌, List, [], ◌∷◌, ◌++◌, length, map, slice_get, Option, Some, None, IsTrue, refl, sym, subst, ap, ◌∙◌, arith, eq-eqb, ne_eqb, eqb-true, add-zero, append-nil}
use Rattle.std.proofs.lemmas.Bool.{and_parts, cond-true, cond-false, cases_eq, eqb-false, not-true}
use Rattle.std.proofs.lemmas.Option.{none-some, same_Some}
use Rattle.std.proofs.lemmas.List.{map-append}
use Rattle.std.proofs.lemmas.List.Elements.{All-nil, All-cons, All-weaker, All-filter, All-append, All-map, filter-append, filter_passes}
use Rattle.std.proofs.lemmas.List.FromFn.{length-map-range_with_len, get_or-map-range_with_len}
use Rattle.std.specs.List.{All, filter, list_all}
use Rattle.nego_base.specs.Members.{is_in, all_in, RisesFrom, IsRising}
use Rattle.nego_base.proofs.Members.{all_at, all_in-member, rises-append}
use Rattle.nego_expr.specs.Work.{outcomes_at, WorkOutcome, PlainWork, outcome_among, outcome_at, work_parties, work_outcomes, sent_to, IsWork}
use Rattle.nego_expr.specs.Edits.{with_outcome}
use Rattle.nego_expr.specs.Use.{same_target, enters, targets_through, through, through_from, gone_through}
use Rattle.nego_expr.proofs.Alive.{outcome_among_later, each_found}
use Rattle.nego_expr.proofs.NodesAt.{found-nodes_at}
use Rattle.nego_expr.proofs.WorkEdits.{numbers_of, All-at_place, All-found, found_cases, found-number, found_there, there_found, none_found, rises-passing, found-before, found-behind, numbers-with_outcome, passing-with_outcome, found-with_outcome, found-with_other, All-with_outcome}
use Rattle.nego_expr.proofs.WorkForm.{outcome_found, found_outcome}
use Rattle.nego_expr.proofs.Searching.{target_is, filter-none}

-- An alive outcome enters an atom, which is neither its own nor the first nor the last: the atom's parties are parties of
-- the outcome's, and it sends each of them there.
pub record IsEntry (work : PlainWork) (x : WorkOutcome) (n : ℕ) : Type 0 where
  pub alive : outcome_at work x.number ≡ Some x
  pub apart : x.atom ≢ n
  pub there : IsTrue (is_in n (map (λ atom. atom.number) work.atoms))
  pub not_first : n ≢ work.first
  pub not_last : n ≢ work.last
  pub within : (a : ℕ) → IsTrue (is_in a (work_parties work n)) → IsTrue (is_in a (work_parties work x.atom))
  pub sends : (a : ℕ) → IsTrue (is_in a (work_parties work n)) → sent_to x a ≡ Some n

six_parts : (a b c d e f : Bool) → (a && (b && (c && (d && (e && f))))) ≡ true → (a ≡ true) × (b ≡ true) × (c ≡ true) × (d ≡ true) × (e ≡ true) × (f ≡ true)
six_parts a b c d e f h =
    let p = and_parts a (b && (c && (d && (e && f)))) h in
    let q = and_parts b (c && (d && (e && f))) p.1 in
    let r = and_parts c (d && (e && f)) q.1 in
    let s = and_parts d (e && f) r.1 in
    let t = and_parts e f s.1 in
    (p.0, q.0, r.0, s.0, t.0, t.1)

-- what the guard says
pub entry_from : (work : PlainWork) (x : WorkOutcome) (n : ℕ) → outcome_at work x.number ≡ Some x → IsTrue (enters work x n) → IsEntry work x n
entry_from work x n alive h =
    let k = six_parts (not (x.atom == n)) (is_in n (map (λ atom. atom.number) work.atoms)) (not (n == work.first)) (not (n == work.last)) (all_in (work_parties work n) (work_parties work x.atom))
    (list_all (λ a. same_target (sent_to x a) (Some n)) (work_parties work n)) h in
    record {
      alive = alive;
      apart = eqb-false x.atom n (not-true (x.atom == n) k.0);
      there = k.1;
      not_first = eqb-false n work.first (not-true (n == work.first) k.2);
      not_last = eqb-false n work.last (not-true (n == work.last) k.3);
      within = λ a m. all_in-member a (work_parties work n) (work_parties work x.atom) k.4 m;
      sends = λ a m. target_is (sent_to x a) n (all_at (λ b. same_target (sent_to x b) (Some n)) (work_parties work n) a k.5 m);
    }

-- ---- the numbers of what the entered atom's outcomes made

-- of these outcomes the numbers from next on
abbrev pub made_from : ℕ → List WorkOutcome → ℕ → ℕ
made_from next [] q = next
made_from next (y ∷ ys) q = if y.number == q then next else made_from (next + 1) ys q

-- of the first of these outcomes the number o, of the others the numbers from next on
abbrev pub made_number : ℕ → ℕ → List WorkOutcome → ℕ → ℕ
made_number o next [] q = o
made_number o next (y ∷ ys) q = if y.number == q then o else made_from next ys q

-- the number that the outcome at a place made
abbrev pub number_at : ℕ → ℕ → ℕ → ℕ
number_at o next zero = o
number_at o next (suc k) = next + k

made_from-place : (low next : ℕ) (ys : List WorkOutcome) (k : ℕ) (z : WorkOutcome) → RisesFrom low (numbers_of ys) → slice_get ys k ≡ Some z → (low ≤ z.number) × (made_from next ys z.number ≡ next + k)
made_from-place low next [] k z h e = absurd (none-some z e)
made_from-place low next (y ∷ ys) zero z h e = (
  subst (λ w. low ≤ w.number) (same_Some y z e) h.0,
  subst (λ w. made_from next (y ∷ ys) w.number ≡ next + 0) (same_Some y z e) (cond-true (y.number == y.number) next (made_from (next + 1) ys y.number) (eq-eqb y.number y.number refl) ∙ sym (add-zero next)),
)
made_from-place low next (y ∷ ys) (suc k) z h e =
    let q = made_from-place (y.number + 1) (next + 1) ys k z h.1 e in
    let from : low ≤ y.number = h.0 in
    let above : y.number + 1 ≤ z.number = q.0 in
    let r : next + 1 + k ≡ next + suc k = omega arith in (
      omega (arith, from, above),
      cond-false (y.number == z.number) next (made_from (next + 1) ys z.number) (ne_eqb y.number z.number (λ f. let no_more : ⊥ = omega (arith, above, f) in no_more)) ∙ (q.1 ∙ r),
    )

-- the outcome at a place made the number of this place
pub made_number-place : (low o next : ℕ) (ys : List WorkOutcome) (k : ℕ) (z : WorkOutcome) → RisesFrom low (numbers_of ys) → slice_get ys k ≡ Some z → made_number o next ys z.number ≡ number_at o next k
made_number-place low o next [] k z h e = absurd (none-some z e)
made_number-place low o next (y ∷ ys) zero z h e =
    subst (λ w. made_number o next (y ∷ ys) w.number ≡ o) (same_Some y z e) (cond-true (y.number == y.number) o (made_from next ys y.number) (eq-eqb y.number y.number refl))
made_number-place low o next (y ∷ ys) (suc k) z h e =
    let q = made_from-place (y.number + 1) next ys k z h.1 e in
    let above : y.number + 1 ≤ z.number = q.0 in
    cond-false (y.number == z.number) o (made_from next ys z.number) (ne_eqb y.number z.number (λ f. let no_more : ⊥ = omega (arith, above, f) in no_more)) ∙ q.1

-- ---- the outcomes with new numbers

module _ (work : PlainWork) (n : ℕ) (x : WorkOutcome) where
  -- there are as many
  pub length-through_from : (o i : ℕ) (ys : List WorkOutcome) → length (through_from work n x o i ys) ≡ length ys
  length-through_from o i [] = refl
  length-through_from o i (y ∷ ys) = ap suc (length-through_from (o + 1) (i + 1) ys)

  -- their numbers rise
  pub rises-through_from : (o i : ℕ) (ys : List WorkOutcome) → RisesFrom o (numbers_of (through_from work n x o i ys))
  rises-through_from o i [] = tt
  rises-through_from o i (y ∷ ys) = (omega arith, rises-through_from (o + 1) (i + 1) ys)

  -- the first place
  at_zero : (o i : ℕ) (y : WorkOutcome) → through work n x y (o + 0) (i + 0) ≡ through work n x y o i
  at_zero o i y = ap (λ p. through work n x y p (i + 0)) (add-zero o) ∙ ap (λ j. through work n x y o j) (add-zero i)

  -- a later one
  at_more : (o i k : ℕ) (y : WorkOutcome) → through work n x y (o + 1 + k) (i + 1 + k) ≡ through work n x y (o + suc k) (i + suc k)
  at_more o i k y =
      let q : o + 1 + k ≡ o + suc k = omega arith in
      let r : i + 1 + k ≡ i + suc k = omega arith in
      ap (λ p. through work n x y p (i + 1 + k)) q ∙ ap (λ j. through work n x y (o + suc k) j) r

  -- what holds of what each made holds of each
  pub All-through_from : (P : WorkOutcome → Type 0) (o i : ℕ) (ys : List WorkOutcome) → ((k : ℕ) (z : WorkOutcome) → slice_get ys k ≡ Some z → P (through work n x z (o + k) (i + k))) → All P (through_from work n x o i ys)
  All-through_from P o i [] h = All-nil P
  All-through_from P o i (y ∷ ys) h =
      All-cons P (through work n x y o i) (through_from work n x (o + 1) (i + 1) ys) (subst P (at_zero o i y) (h 0 y refl))
      (All-through_from P (o + 1) (i + 1) ys (λ k z e. subst P (sym (at_more o i k z)) (h (suc k) z e)))

  -- what the outcome at a place made is found
  found-through_from : (o i : ℕ) (ys : List WorkOutcome) (k : ℕ) (z : WorkOutcome) → slice_get ys k ≡ Some z → outcome_among (through_from work n x o i ys) (o + k) ≡ Some (through work n x z (o + k) (i + k))
  found-through_from o i [] k z e = absurd (none-some z e)
  found-through_from o i (y ∷ ys) zero z e =
      cond-true (o == o + 0) (Some (through work n x y o i)) (outcome_among (through_from work n x (o + 1) (i + 1) ys) (o + 0)) (eq-eqb o (o + 0) (sym (add-zero o)))
      ∙ (ap Some (sym (at_zero o i y)) ∙ ap (λ w. Some (through work n x w (o + 0) (i + 0))) (same_Some y z e))
  found-through_from o i (y ∷ ys) (suc k) z e =
      let q : o + suc k ≡ o + 1 + k = omega arith in
      outcome_among_later (through work n x y o i) (through_from work n x (o + 1) (i + 1) ys) (o + suc k) (λ f. let no_more : ⊥ = omega (arith, f) in no_more)
      ∙ (ap (outcome_among (through_from work n x (o + 1) (i + 1) ys)) q ∙ (found-through_from (o + 1) (i + 1) ys k z e ∙ ap Some (at_more o i k z)))

  -- nothing else is
  pub only-through_from : (o i : ℕ) (ys : List WorkOutcome) (p : ℕ) (w : WorkOutcome) → outcome_among (through_from work n x o i ys) p ≡ Some w →
      (k : ℕ) × (z : WorkOutcome) × (slice_get ys k ≡ Some z) × (p ≡ o + k) × (w ≡ through work n x z (o + k) (i + k))
  only-through_from o i [] p w h = absurd (none-some w h)
  only-through_from o i (y ∷ ys) p w h = ⊎_elim
      (λ k. (0, y, refl, sym k.0 ∙ sym (add-zero o), sym k.1 ∙ sym (at_zero o i y)))
      (λ k.
      let q = only-through_from (o + 1) (i + 1) ys p w k.1 in
      let r : o + 1 + q.0 ≡ o + suc q.0 = omega arith in
      (suc q.0, q.1, q.2, q.3 ∙ r, q.4 ∙ at_more o i q.0 q.1))
      (found_cases (through work n x y o i) (through_from work n x (o + 1) (i + 1) ys) p w h)

  -- ---- where an outcome and then another send the agents

  pub sent-through : (z : WorkOutcome) (number node a : ℕ) → a < work.agents → sent_to (through work n x z number node) a ≡ cond (is_in a (work_parties work n)) (sent_to z a) (sent_to x a)
  sent-through z number node a l = get_or-map-range_with_len (λ b. cond (is_in b (work_parties work n)) (sent_to z b) (sent_to x b)) 0 work.agents a a None l (omega arith)

  pub length-through : (z : WorkOutcome) → length (targets_through work n x z) ≡ work.agents
  length-through z = length-map-range_with_len (λ b. cond (is_in b (work_parties work n)) (sent_to z b) (sent_to x b)) 0 work.agents

-- ---- all outcomes

module _ (work : PlainWork) (n : ℕ) (x y : WorkOutcome) (ys : List WorkOutcome) (ok : IsWork work) (entry : IsEntry work x n) (at_n : outcomes_at work n ≡ y ∷ ys) where
  abbrev grown : PlainWork
  grown = gone_through work n x (y ∷ ys)

  -- the outcome with the first, and those with the others
  abbrev changed : WorkOutcome
  changed = through work n x y x.number (length work.nodes)

  abbrev changed_outcomes : List WorkOutcome
  changed_outcomes = with_outcome changed work.outcomes

  abbrev more : List WorkOutcome
  more = through_from work n x work.numbers (length work.nodes + 1) ys

  -- what the outcome at a place made
  abbrev number : ℕ → ℕ
  number k = number_at x.number work.numbers k

  abbrev made : ℕ → WorkOutcome → WorkOutcome
  made k z = through work n x z (number k) (length work.nodes + k)

  made_first : made 0 y ≡ changed
  made_first = ap (λ j. through work n x y x.number j) (add-zero (length work.nodes))

  made_more : (k : ℕ) (z : WorkOutcome) → made (suc k) z ≡ through work n x z (work.numbers + k) (length work.nodes + 1 + k)
  made_more k z = let q : length work.nodes + suc k ≡ length work.nodes + 1 + k = omega arith in ap (λ j. through work n x z (work.numbers + k) j) q

  -- what holds of each outcome holds of each of the entered atom's
  pub at_place : (P : WorkOutcome → Type 0) (k : ℕ) (z : WorkOutcome) → All P work.outcomes → slice_get (y ∷ ys) k ≡ Some z → P z
  at_place P k z h e = All-at_place P (y ∷ ys) k z (subst (All P) at_n (All-filter (λ w. w.atom == n) P work.outcomes h)) e

  pub of_atom : (k : ℕ) (z : WorkOutcome) → slice_get (y ∷ ys) k ≡ Some z → z.atom ≡ n
  of_atom k z e = eqb-true z.atom n (All-at_place Passes (y ∷ ys) k z (subst (All Passes) at_n (filter_passes (λ w. w.atom == n) work.outcomes)) e)
    where
      Passes : WorkOutcome → Type 0
      Passes w = (w.atom == n) ≡ true

  -- their numbers rise
  pub entered_rise : IsRising (numbers_of (y ∷ ys))
  entered_rise = subst (λ zs. IsRising (numbers_of zs)) at_n (rises-passing (λ w. w.atom == n) 0 work.outcomes ok.numbers_rise)

  -- each stands at a place
  pub place_of : (q : ℕ) → IsTrue (is_in q (work_outcomes work n)) → (k : ℕ) × (z : WorkOutcome) × (slice_get (y ∷ ys) k ≡ Some z) × (outcome_at work q ≡ Some z) × (z.number ≡ q)
  place_of q h =
      let z = outcome_found work ok.numbers_rise (λ w. Unit {0}) n q (λ k d l. tt) h in
      let k = found-nodes_at n 0 work.outcomes q z.0 z.1 z.2 in
      (k.0, z.0, ap (λ zs. slice_get zs k.0) (sym at_n) ∙ k.1, z.1, found-number work.outcomes q z.0 z.1)

  -- and the one at a place is an outcome of the atom
  pub place_is : (k : ℕ) (z : WorkOutcome) → slice_get (y ∷ ys) k ≡ Some z → IsTrue (is_in z.number (work_outcomes work n))
  place_is k z e =
      found_outcome work ok.numbers_rise n z.number z (at_place (λ w. outcome_at work w.number ≡ Some w) k z (each_found work.outcomes ok.numbers_rise) e) (of_atom k z e)

  -- what holds of each outcome, and of what each of the entered atom's made, holds of each now
  pub each_entered : (P : WorkOutcome → Type 0) → All P work.outcomes → ((k : ℕ) (z : WorkOutcome) → slice_get (y ∷ ys) k ≡ Some z → P (through work n x z (number_at x.number work.numbers k) (length work.nodes + k))) →
      All P (gone_through work n x (y ∷ ys)).outcomes
  each_entered P h m =
      All-append P changed_outcomes more (All-with_outcome P changed work.outcomes (subst P made_first (m 0 y refl)) h)
      (All-through_from work n x P work.numbers (length work.nodes + 1) ys (λ k z e. subst P (made_more k z) (m (suc k) z e)))

  -- the numbers rise
  pub rise : IsRising (numbers_of (gone_through work n x (y ∷ ys)).outcomes)
  rise = subst IsRising (sym (map-append (λ z. z.number) changed_outcomes more ∙ ap (λ ns. ns ++ numbers_of more) (numbers-with_outcome changed work.outcomes)))
      (rises-append 0 work.numbers (numbers_of work.outcomes) (numbers_of more) (omega arith) ok.numbers_rise (All-map (λ o. o < work.numbers) (λ z. z.number) work.outcomes ok.numbers_used)
      (rises-through_from work n x work.numbers (length work.nodes + 1) ys))

  -- a number never used is no outcome's
  not_used : (k : ℕ) → IsTrue (is_in (work.numbers + k) (numbers_of work.outcomes)) → ⊥
  not_used k m =
      let z = found_there work.outcomes (work.numbers + k) m in
      let l : z.0.number < work.numbers = All-found (λ w. w.number < work.numbers) work.outcomes (work.numbers + k) z.0 ok.numbers_used z.1 in
      let e : z.0.number ≡ work.numbers + k = found-number work.outcomes (work.numbers + k) z.0 z.1 in
      omega (arith, l, e)

  -- ---- what is found

  -- what the outcome at a place made
  pub found-made : (k : ℕ) (z : WorkOutcome) → slice_get (y ∷ ys) k ≡ Some z →
      outcome_at (gone_through work n x (y ∷ ys)) (number_at x.number work.numbers k) ≡ Some (through work n x z (number_at x.number work.numbers k) (length work.nodes + k))
  found-made zero z e =
      found-before changed_outcomes more x.number changed (found-with_outcome changed work.outcomes (there_found work.outcomes x.number x entry.alive))
      ∙ (ap Some (sym made_first) ∙ ap (λ w. Some (made 0 w)) (same_Some y z e))
  found-made (suc k) z e =
      found-behind changed_outcomes more (work.numbers + k) none
      ∙ (found-through_from work n x work.numbers (length work.nodes + 1) ys k z e ∙ ap Some (sym (made_more k z)))
    where
      none : outcome_among changed_outcomes (work.numbers + k) ≡ None
      none = none_found changed_outcomes (work.numbers + k) (λ m. not_used k (subst (λ ns. IsTrue (is_in (work.numbers + k) ns)) (numbers-with_outcome changed work.outcomes) m))

  -- by another number that was alive, what was found
  pub found-kept : (q : ℕ) (z : WorkOutcome) → outcome_at work q ≡ Some z → q ≢ x.number → outcome_at (gone_through work n x (y ∷ ys)) q ≡ Some z
  found-kept q z h other = found-before changed_outcomes more q z (found-with_other changed work.outcomes q other ∙ h)

  -- nothing else
  pub found-entered : (q : ℕ) (w : WorkOutcome) → outcome_at (gone_through work n x (y ∷ ys)) q ≡ Some w →
      ((outcome_at work q ≡ Some w) × (q ≢ x.number))
      ⊎ ((k : ℕ) × (z : WorkOutcome) × (slice_get (y ∷ ys) k ≡ Some z) × (q ≡ number_at x.number work.numbers k) × (w ≡ through work n x z (number_at x.number work.numbers k) (length work.nodes + k)))
  found-entered q w h = ⊎_elim
      (λ e. inr (0, y, refl, e, same_Some w (made 0 y) (sym h ∙ (ap (outcome_at grown) e ∙ found-made 0 y refl))))
      (λ other. go (outcome_at work q) refl other)
      (cases_eq q x.number)
    where
      go : (found : Option WorkOutcome) → outcome_at work q ≡ found → q ≢ x.number →
          ((outcome_at work q ≡ Some w) × (q ≢ x.number))
          ⊎ ((k : ℕ) × (z : WorkOutcome) × (slice_get (y ∷ ys) k ≡ Some z) × (q ≡ number_at x.number work.numbers k) × (w ≡ through work n x z (number_at x.number work.numbers k) (length work.nodes + k)))
      go (Some z) e other = inl (e ∙ (sym (found-kept q z e other) ∙ h), other)
      go None e other =
          let k = only-through_from work n x work.numbers (length work.nodes + 1) ys q w (sym (found-behind changed_outcomes more q (found-with_other changed work.outcomes q other ∙ e)) ∙ h) in
          inr (suc k.0, k.1, k.2, k.3, k.4 ∙ sym (made_more k.0 k.1))

  -- ---- the outcomes of an atom

  -- another outcome of an atom is one of it now
  pub kept_is : (p q : ℕ) → IsTrue (is_in q (work_outcomes work p)) → q ≢ x.number → IsTrue (is_in q (work_outcomes (gone_through work n x (y ∷ ys)) p))
  kept_is p q h other =
      let z = outcome_found work ok.numbers_rise (λ w. Unit {0}) p q (λ k d l. tt) h in
      found_outcome grown rise p q z.0 (found-kept q z.0 z.1 other) z.2

  -- what the entered atom's made are outcomes of the atom of the outcome
  pub made_is : (k : ℕ) (z : WorkOutcome) → slice_get (y ∷ ys) k ≡ Some z → IsTrue (is_in (number_at x.number work.numbers k) (work_outcomes (gone_through work n x (y ∷ ys)) x.atom))
  made_is k z e = found_outcome grown rise x.atom (number k) (made k z) (found-made k z e) refl

  -- another atom has the outcomes that it had
  pub outcomes-other : (p : ℕ) → p ≢ x.atom → work_outcomes (gone_through work n x (y ∷ ys)) p ≡ work_outcomes work p
  outcomes-other p other =
      ap numbers_of (filter-append (λ z. z.atom == p) changed_outcomes more ∙ (ap (λ zs. filter (λ z. z.atom == p) changed_outcomes ++ zs) (filter-none (λ z. z.atom == p) more none) ∙ append-nil (filter (λ z. z.atom == p) changed_outcomes)))
      ∙ passing-with_outcome (λ z. z.atom == p) changed work.outcomes same
    where
      none : All (λ z. (z.atom == p) ≡ false) more
      none = All-through_from work n x (λ z. (z.atom == p) ≡ false) work.numbers (length work.nodes + 1) ys (λ k z e. ne_eqb x.atom p (λ q. other (sym q)))

      Same : WorkOutcome → Type 0
      Same z = z.number ≡ changed.number → (z.atom == p) ≡ (changed.atom == p)

      same : All Same work.outcomes
      same = All-weaker (λ z. outcome_at work z.number ≡ Some z) Same (λ z h e. ap (λ w. w.atom == p) (same_Some z x (sym h ∙ (ap (outcome_at work) e ∙ entry.alive)))) work.outcomes (each_found work.outcomes ok.numbers_rise)
