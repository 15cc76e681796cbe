-- Works in memory: the atoms that are left with their parties, and alive outcomes after an edit.
use Rattle.std.proofs.Common.{◌≡◌, ⊎_elim, ℕ, ◌+◌, ◌<◌, ◌≤◌, ◌==◌, not, cond, Bool, true, false, Option, List, [], ◌∷◌, ◌++◌, length, map, slice_index_or, IsTrue, refl, sym, subst, ap, ◌∙◌, arith, eq-eqb, ne_eqb}
use Rattle.std.specs.List.{All, filter}
use Rattle.std.proofs.lemmas.Bool.{cond-true, cond-false, cases_eq}
use Rattle.std.proofs.lemmas.List.Elements.{All-nil, All-cons, All-head, All-tail, All-filter, All-append, All-weaker}
use Rattle.std.proofs.lemmas.List.{map-append, length-map}
use Rattle.std.specs.Prelude.{slice_index}
use Rattle.nego_base.specs.Members.{is_in, without_member, RisesFrom, IsRising}
use Rattle.nego_base.proofs.Members.{is_in_none, is_in-cases, rises-append, All-member}
use Rattle.nego_expr.specs.Work.{WorkOutcome, parties_among}
use Rattle.nego_expr.specs.Edits.{with_outcome}
use Rattle.nego_expr.specs.Room.{RoomyNodes, RoomyWork}
use Rattle.nego_expr.specs.Sorted.{PlainSlot, AreMembersOf, AreSlotsOf}
use Rattle.nego_expr.specs.WorkView.{atom_among, atom_number, plain_outcome, roomy_work, AreAlive, IsUsable}
use Rattle.nego_expr.specs.Counts.{AreCountsOf, AreEntriesOf}
use Rattle.nego_base.specs.Room.{WithRoom}
use Rattle.nego_expr.specs.declared.outcome.Outcome.{Outcome}
use Rattle.nego_expr.specs.declared.work.Work.TheInside.{Inside}
use Rattle.nego_expr.proofs.WorkEdits.{numbers_of, rises-passing, numbers-with_outcome, All-with_outcome}
use Rattle.nego_expr.proofs.Counting.{equals, length-equals}

module _ (parties : List (List ℕ)) where
  -- the atoms have the numbers of those that are left
  pub numbers-atoms : (left : List ℕ) → map (λ atom. atom.number) (map (atom_among parties) left) ≡ left
  numbers-atoms [] = refl
  numbers-atoms (n ∷ left) = ap (◌∷◌ n) (numbers-atoms left)

  -- an atom that is left has its parties
  pub parties-atoms : (left : List ℕ) (n : ℕ) → IsTrue (is_in n left) → parties_among (map (atom_among parties) left) n ≡ slice_index_or parties n []
  parties-atoms [] n h = absurd (is_in_none n [] refl h)
  parties-atoms (m ∷ left) n h = ⊎_elim
      (λ e. cond-true (m == n) (slice_index_or parties m []) (parties_among (map (atom_among parties) left) n) (eq-eqb m n e) ∙ ap (λ k. slice_index_or parties k []) e)
      (λ other. cond-false (m == n) (slice_index_or parties m []) (parties_among (map (atom_among parties) left) n) (ne_eqb m n other)
      ∙ ⊎_elim (λ e. absurd (other (sym e))) (λ q. parties-atoms left n q) (is_in-cases n m left h))
      (cases_eq m n)

  -- without an atom
  pub atoms-without : (n : ℕ) (left : List ℕ) → map (atom_among parties) (without_member n left) ≡ filter (λ atom. not (atom.number == n)) (map (atom_among parties) left)
  atoms-without n [] = refl
  atoms-without n (m ∷ left) = go (not (m == n)) (atoms-without n left)
    where
      go : (b : Bool) → map (atom_among parties) (without_member n left) ≡ filter (λ atom. not (atom.number == n)) (map (atom_among parties) left) →
          map (atom_among parties) (cond b (m ∷ without_member n left) (without_member n left))
          ≡ cond b (atom_among parties m ∷ filter (λ atom. not (atom.number == n)) (map (atom_among parties) left)) (filter (λ atom. not (atom.number == n)) (map (atom_among parties) left))
      go true k = ap (◌∷◌ (atom_among parties m)) k
      go false k = k

-- an atom of the work that the fields are is left
pub left_there : (w : Inside) (work : RoomyWork) (n : ℕ) → roomy_work w ≡ work → IsTrue (is_in n (map (λ atom. atom.number) work.plain.atoms)) → IsTrue (is_in n w.left)
left_there w work n e h =
    let At : RoomyWork → Type 0 = λ v. IsTrue (is_in n (map (λ atom. atom.number) v.plain.atoms)) in
    subst (λ xs. IsTrue (is_in n xs)) (numbers-atoms w.parties w.left) (subst At (sym e) h)

-- what holds of each outcome's number
All-numbers : (P : ℕ → Type 0) (xs : List WorkOutcome) → All (λ x. P x.number) xs → All P (numbers_of xs)
All-numbers P [] h = All-nil P
All-numbers P (x ∷ xs) h = All-cons P x.number (numbers_of xs) (All-head (λ y. P y.number) x xs h) (All-numbers P xs (All-tail (λ y. P y.number) x xs h))

-- outcomes of rising numbers are no more than numbers
few_above : (low numbers : ℕ) (xs : List WorkOutcome) → RisesFrom low (numbers_of xs) → All (λ x. x.number < numbers) xs → low ≤ numbers → length xs + low ≤ numbers
few_above low numbers [] h k le = omega (arith, le)
few_above low numbers (x ∷ xs) h k le =
    let below : x.number < numbers = All-head (λ y. y.number < numbers) x xs k in
    let from : low ≤ x.number = h.0 in
    let rest : length xs + (x.number + 1) ≤ numbers = few_above (x.number + 1) numbers xs h.1 (All-tail (λ y. y.number < numbers) x xs k) (omega (arith, below)) in
    omega (arith, from, rest)

module _ (agents numbers nodes : ℕ) (outcomes : List WorkOutcome) (ok : AreAlive agents numbers nodes outcomes) where
  -- there are no more than numbers
  pub few_alive : length outcomes ≤ numbers
  few_alive = let h : length outcomes + 0 ≤ numbers = few_above 0 numbers outcomes ok.rising ok.used (omega arith) in omega (arith, h)

  -- some of them are
  pub alive-filter : (test : WorkOutcome → Bool) → AreAlive agents numbers nodes (filter test outcomes)
  alive-filter test = record {
    rising = rises-passing test 0 outcomes ok.rising;
    used = All-filter test (λ x. x.number < numbers) outcomes ok.used;
    fit = All-filter test (λ x. length x.targets ≡ agents) outcomes ok.fit;
    there = All-filter test (λ x. x.node < nodes) outcomes ok.there;
  }

  -- they are where one is another of its number
  pub alive-set : (new : WorkOutcome) → new.number < numbers → length new.targets ≡ agents → new.node < nodes → AreAlive agents numbers nodes (with_outcome new outcomes)
  alive-set new used fit there = record {
    rising = subst IsRising (sym (numbers-with_outcome new outcomes)) ok.rising;
    used = All-with_outcome (λ x. x.number < numbers) new outcomes used ok.used;
    fit = All-with_outcome (λ x. length x.targets ≡ agents) new outcomes fit ok.fit;
    there = All-with_outcome (λ x. x.node < nodes) new outcomes there ok.there;
  }

  -- they are with one of the least number that was never used
  pub alive-add : (n : ℕ) (targets : List (Option ℕ)) (node : ℕ) (passed : List ℕ) → length targets ≡ agents → node < nodes →
      AreAlive agents (numbers + 1) nodes (outcomes ++ record { number = numbers; atom = n; targets = targets; node = node; passed = passed } ∷ [])
  alive-add n targets node passed fit there = record {
    rising = subst IsRising (sym (map-append (λ x. x.number) outcomes (new ∷ [])))
        (rises-append 0 numbers (numbers_of outcomes) (numbers ∷ []) (omega arith) ok.rising (All-numbers (λ m. m < numbers) outcomes ok.used) (omega arith, tt));
    used = All-append (λ x. x.number < numbers + 1) outcomes (new ∷ []) (All-weaker (λ x. x.number < numbers) (λ x. x.number < numbers + 1) (λ x h. let l : x.number < numbers = h in omega (arith, l)) outcomes ok.used) (single (λ x. x.number < numbers + 1) (omega arith));
    fit = All-append (λ x. length x.targets ≡ agents) outcomes (new ∷ []) ok.fit (single (λ x. length x.targets ≡ agents) fit);
    there = All-append (λ x. x.node < nodes) outcomes (new ∷ []) ok.there (single (λ x. x.node < nodes) there);
  }
    where
      new : WorkOutcome
      new = record { number = numbers; atom = n; targets = targets; node = node; passed = passed }

      single : (P : WorkOutcome → Type 0) → P new → All P (new ∷ [])
      single P h = All-cons P new [] h (All-nil P)

-- with more room they may be used too
pub roomier : (w : Inside) (nodes : RoomyNodes) (outcomes : WithRoom Outcome) (slots members : WithRoom PlainSlot) → nodes.nodes ≡ w.nodes.nodes → outcomes.items ≡ w.outcomes.items → slots.items ≡ w.slots.items → members.items ≡ w.members.items → IsUsable w →
    IsUsable (record w { nodes = nodes; outcomes = outcomes; slots = slots; members = members })
roomier w nodes outcomes slots members n o s m ok = record {
  few_agents = ok.few_agents;
  few_atoms = ok.few_atoms;
  left_below = ok.left_below;
  alive = rw (n, o) ok.alive;
  few_numbers = ok.few_numbers;
  sorted = subst (AreSlotsOf (map plain_outcome outcomes.items)) (sym s) (subst (λ (xs : List Outcome). AreSlotsOf (map plain_outcome xs) w.slots.items) (sym o) ok.sorted);
  members = subst (AreMembersOf (map plain_outcome outcomes.items)) (sym m) (subst (λ (xs : List Outcome). AreMembersOf (map plain_outcome xs) w.members.items) (sym o) ok.members);
  counted = subst (λ (xs : List Outcome). AreCountsOf (map atom_number xs) w.counts) (sym o) ok.counted;
  entered = subst (λ (xs : List Outcome). AreEntriesOf (map plain_outcome xs) w.entries) (sym o) ok.entered;
}

-- an atom that is left has a number that a set may have
pub left_few : (w : Inside) (work : RoomyWork) (n : ℕ) → IsUsable w → roomy_work w ≡ work → IsTrue (is_in n (map (λ atom. atom.number) work.plain.atoms)) → n < 64
left_few w work n ok e h =
    let below : n < length w.parties = All-member (λ m. m < length w.parties) n w.left ok.left_below (left_there w work n e h) in
    let few : length w.parties ≤ 64 = ok.few_atoms in
    omega (arith, below, few)

-- there are no more outcomes than numbers
pub few_outcomes : (w : Inside) → IsUsable w → length (map plain_outcome w.outcomes.items) ≤ w.numbers
few_outcomes w ok = few_alive w.agents w.numbers (length w.nodes.nodes) (map plain_outcome w.outcomes.items) ok.alive

-- an atom has no more outcomes than there are numbers
pub few_counted : (w : Inside) (n : ℕ) → IsUsable w → slice_index w.counts n ≤ w.numbers
few_counted w n ok =
    let items = w.outcomes.items in
    let here : slice_index w.counts n ≡ length (equals n (map atom_number items)) = ok.counted n in
    let some : length (equals n (map atom_number items)) ≤ length (map atom_number items) = length-equals n (map atom_number items) in
    let atoms : length (map atom_number items) ≡ length items = length-map items atom_number in
    let seen : length (map plain_outcome items) ≡ length items = length-map items plain_outcome in
    let all : length (map plain_outcome items) ≤ w.numbers = few_outcomes w ok in
    omega (arith, here, some, atoms, seen, all)
