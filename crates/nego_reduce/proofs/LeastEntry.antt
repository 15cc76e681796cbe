-- The least atom into which the order takes a shortcut of an outcome, among the atoms to which it sends agents.
use Rattle.std.proofs.Common.{◌≡◌, ◌≢◌, ◌⊎◌, ⊎_elim, ℕ, ◌+◌, ◌<◌, ◌≤◌, Bool, true, false, not, ◌==◌, ◌&&◌, length, map, option_map, Option, Some, None, IfSome, IfNone, IsTrue, refl, sym, subst, ap, ◌∙◌, arith, eq-eqb}
use Rattle.std.specs.Prelude.{nat_lt}
use Rattle.std.specs.Option.{option_map_or}
use Rattle.std.proofs.lemmas.Bool.{and_parts, and_from, cases_lt, false_from_ne_true, true≢false, ltb-true, lt-ltb}
use Rattle.std.proofs.lemmas.Option.{same_Some}
use Rattle.nego_base.specs.declared.ids.AtomId.{AtomId}
use Rattle.nego_base.specs.Members.{is_in, difference}
use Rattle.nego_base.proofs.Members.{is_in-difference, some_member}
use Rattle.nego_expr.specs.Work.{WorkOutcome, PlainWork, outcome_at, outcomes_at, work_parties, sent_to, IsWork}
use Rattle.nego_expr.specs.Use.{Shortcut, allows}
use Rattle.nego_expr.proofs.EditCalls.{found_itself}
use Rattle.nego_expr.proofs.WorkEdits.{All-found}
use Rattle.nego_expr.proofs.WorkForm.{OutcomeFits, fits_from_work}
use Rattle.nego_shortcut.proofs.ShortWorks.{entry_from}
use Rattle.nego_reduce.specs.Order.{IsLeastShortcut, has_passed, takes_shortcut}
use Rattle.nego_reduce.proofs.bound.NextUsesLower.{shortcut_parts}

-- The order takes no shortcut into an atom to which an agent below a is sent, or it takes one into this atom, and into
-- no lesser one of these.
abbrev pub IsLeastSoFar : PlainWork → WorkOutcome → ℕ → Option ℕ → Type 0
IsLeastSoFar work x a None = (b m : ℕ) → b < a → sent_to x b ≡ Some m → takes_shortcut work x.number m ≡ false
IsLeastSoFar work x a (Some n) = IsTrue (takes_shortcut work x.number n) × ((b m : ℕ) → b < a → sent_to x b ≡ Some m → m < n → takes_shortcut work x.number m ≡ false)

-- at first no agent is below
pub so_far_start : (work : PlainWork) (x : WorkOutcome) → IsLeastSoFar work x 0 None
so_far_start work x b m l e = absurd (let no_more : ⊥ = omega (arith, l) in no_more)

module _ (work : PlainWork) (ok : IsWork work) (x : WorkOutcome) (alive : outcome_at work x.number ≡ Some x) where
  -- where the outcome sends an agent there is an atom
  pub sent_there : (a n : ℕ) → sent_to x a ≡ Some n → IsTrue (is_in n (map (λ atom. atom.number) work.atoms))
  sent_there a n e = let fits : OutcomeFits work x = All-found (OutcomeFits work) work.outcomes x.number x (fits_from_work work ok) alive in (fits.sends a n e).0

  -- into which atoms a shortcut was passed
  passed_is : (n : ℕ) → has_passed work x.number n ≡ is_in n x.passed
  passed_is n = ap (λ f. option_map_or (λ z. is_in n z.passed) f false) alive

  -- an atom of several outcomes is not entered
  pub many_outcomes : (n : ℕ) → length (outcomes_at work n) ≢ 1 → takes_shortcut work x.number n ≡ false
  many_outcomes n other = false_from_ne_true (takes_shortcut work x.number n) (λ h. other (ap length (shortcut_parts work x.number n h).one))

  -- nor is one that was passed
  pub passed_once : (n : ℕ) → IsTrue (is_in n (map (λ atom. atom.number) work.atoms)) → is_in n (difference (map (λ atom. atom.number) work.atoms) x.passed) ≡ false → takes_shortcut work x.number n ≡ false
  passed_once n there h = false_from_ne_true (takes_shortcut work x.number n) (λ k.
      let parts = shortcut_parts work x.number n k in
      let new : not (is_in n x.passed) ≡ true = ap (λ z. not (is_in n z.passed)) (sym (same_Some parts.outcome x (sym parts.found ∙ alive))) ∙ ap not parts.fresh in
      let e = is_in-difference n (map (λ atom. atom.number) work.atoms) x.passed in
      true≢false (sym (and_from (not (is_in n x.passed)) (is_in n (map (λ atom. atom.number) work.atoms)) new there) ∙ (sym e ∙ h)))

  -- an atom of one outcome that wasn't passed is entered where the guard allows it
  pub only_guard : (n : ℕ) → length (outcomes_at work n) ≡ 1 → is_in n (difference (map (λ atom. atom.number) work.atoms) x.passed) ≡ true → takes_shortcut work x.number n ≡ allows work (Shortcut x.number n)
  only_guard n one h =
      let e = is_in-difference n (map (λ atom. atom.number) work.atoms) x.passed in
      let new : not (has_passed work x.number n) ≡ true = ap not (passed_is n) ∙ (and_parts (not (is_in n x.passed)) (is_in n (map (λ atom. atom.number) work.atoms)) (sym e ∙ h)).0 in
      and_true (allows work (Shortcut x.number n)) (and_from (length (outcomes_at work n) == 1) (not (has_passed work x.number n)) (eq-eqb (length (outcomes_at work n)) 1 one) new)
    where
      and_true : (s : Bool) {t : Bool} → t ≡ true → (s && t) ≡ s
      and_true true h = h
      and_true false h = refl

  -- ---- so far

  -- what the one agent more doesn't change
  pub so_far_kept : (a : ℕ) (least : Option ℕ) → ((m : ℕ) → sent_to x a ≡ Some m → (option_map_or (λ n. nat_lt m n) least true ≡ false) ⊎ (takes_shortcut work x.number m ≡ false)) →
      IsLeastSoFar work x a least → IsLeastSoFar work x (a + 1) least
  so_far_kept a None here h = λ b m l e. ⊎_elim (λ k. h b m k e)
      (λ k. let same : b ≡ a = omega (arith, k, l) in ⊎_elim (λ no. absurd (true≢false no)) (λ no. no) (here m (subst (λ c. sent_to x c ≡ Some m) same e)))
      (cases_lt b a)
  so_far_kept a (Some n) here h = (
    h.0,
    λ b m l e below. ⊎_elim (λ k. h.1 b m k e below)
        (λ k. let same : b ≡ a = omega (arith, k, l) in ⊎_elim (λ no. absurd (true≢false (sym (lt-ltb m n below) ∙ no))) (λ no. no) (here m (subst (λ c. sent_to x c ≡ Some m) same e)))
        (cases_lt b a),
  )

  -- a lesser atom takes the place
  pub so_far_lesser : (a n : ℕ) (least : Option ℕ) → sent_to x a ≡ Some n → option_map_or (λ m. nat_lt n m) least true ≡ true → IsTrue (takes_shortcut work x.number n) → IsLeastSoFar work x a least → IsLeastSoFar work x (a + 1) (Some n)
  so_far_lesser a n least sent below taken h = (
    taken,
    λ b m l e lower. ⊎_elim (λ k. before least below h b m k e lower)
        (λ k. let same : b ≡ a = omega (arith, k, l) in
        let one : n ≡ m = same_Some n m (sym sent ∙ subst (λ c. sent_to x c ≡ Some m) same e) in
        absurd (let no_more : ⊥ = omega (arith, one, lower) in no_more))
        (cases_lt b a),
  )
    where
      before : (least : Option ℕ) → option_map_or (λ m. nat_lt n m) least true ≡ true → IsLeastSoFar work x a least → (b m : ℕ) → b < a → sent_to x b ≡ Some m → m < n → takes_shortcut work x.number m ≡ false
      before None below h b m l e lower = h b m l e
      before (Some k) below h b m l e lower = let less : n < k = ltb-true n k below in h.1 b m l e (omega (arith, less, lower))

  -- ---- at the end

  -- an atom into which the order takes a shortcut is one to which an agent is sent
  taken_sent : (m : ℕ) → IsTrue (takes_shortcut work x.number m) → (a : ℕ) × (a < work.agents) × (sent_to x a ≡ Some m)
  taken_sent m h =
      let k = shortcut_parts work x.number m h in
      let same : k.outcome ≡ x = same_Some k.outcome x (sym k.found ∙ alive) in
      let entry = entry_from work k.outcome m (found_itself work x.number k.outcome k.found) k.enters in
      let a = some_member (work_parties work m) (ok.form.some_party m entry.there) in
      (a.0, ok.form.party_below m a.0 entry.there a.1, subst (λ z. sent_to z a.0 ≡ Some m) same (entry.sends a.0 a.1))

  -- what is found when all agents were looked at
  pub found_taken : (a : ℕ) (least : Option AtomId) → IsLeastSoFar work x a (option_map (λ n. n.0) least) → IfSome least (λ n. IsTrue (takes_shortcut work x.number n.0))
  found_taken a None h = tt
  found_taken a (Some n) h = h.0

  pub found_least : (a : ℕ) (least : Option AtomId) → work.agents ≤ a → IsLeastSoFar work x a (option_map (λ n. n.0) least) → IfSome least (λ n. (m : ℕ) → m < n.0 → takes_shortcut work x.number m ≡ false)
  found_least a None all h = tt
  found_least a (Some n) all h = λ m lower. false_from_ne_true (takes_shortcut work x.number m) (λ k.
      let s = taken_sent m k in
      let l = s.1 in
      true≢false (sym k ∙ h.1 s.0 m (omega (arith, all, l)) s.2 lower))

  pub found_none : (a : ℕ) (least : Option AtomId) → work.agents ≤ a → IsLeastSoFar work x a (option_map (λ n. n.0) least) → IfNone least ((m : ℕ) → takes_shortcut work x.number m ≡ false)
  found_none a None all h = λ m. false_from_ne_true (takes_shortcut work x.number m) (λ k.
      let s = taken_sent m k in
      let l = s.1 in
      true≢false (sym k ∙ h s.0 m (omega (arith, all, l)) s.2))
  found_none a (Some n) all h = tt

-- a number is below an atom's where it is below the atom's number
pub below_seen : (n : ℕ) (least : Option AtomId) → option_map_or (λ m. nat_lt n m.0) least true ≡ option_map_or (λ m. nat_lt n m) (option_map (λ m. m.0) least) true
below_seen n None = refl
below_seen n (Some m) = refl

-- the least shortcut, where none of a lesser outcome is taken, and none of this into a lesser atom
pub least_pair_from : (work : PlainWork) (o n : ℕ) → IsTrue (takes_shortcut work o n) → ((p : ℕ) → p < o → (m : ℕ) → takes_shortcut work p m ≡ false) → ((m : ℕ) → m < n → takes_shortcut work o m ≡ false) → IsLeastShortcut work o n
least_pair_from work o n taken firsts seconds = record {
  taken = taken;
  least = λ p m below. ⊎_elim (λ h. firsts p h m) (λ h. subst (λ q. takes_shortcut work q m ≡ false) (sym h.0) (seconds m h.1)) below;
}
