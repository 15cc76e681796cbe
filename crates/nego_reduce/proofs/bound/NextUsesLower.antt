-- Each next use lowers the measures of works, and the fresh work has them to begin with.
use Rattle.std.proofs.Common.{◌≡◌, ℕ, ◌+◌, ◌-◌, ◌*◌, ◌≤◌, false, not, ◌==◌, ◌&&◌, List, [], ◌∷◌, length, Some, IsTrue, refl, sym, subst, ap, ◌∙◌, arith, eqb-true, ltb-true}
use Rattle.std.specs.List.{All}
use Rattle.std.specs.Option.{option_map_or}
use Rattle.std.proofs.lemmas.Bool.{and_parts, not-true}
use Rattle.std.proofs.lemmas.List.{length-map}
use Rattle.std.proofs.lemmas.List.Elements.{All-nil, All-cons}
use Rattle.std.proofs.lemmas.List.FromFn.{length-range_with_len}
use Rattle.std.proofs.lemmas.List.Sums.{sum_by-le}
use Rattle.nego_base.specs.Members.{is_in}
use Rattle.nego_base.proofs.Members.{is_in-range_zero}
use Rattle.nego_model.specs.Diagram.{PlainDiagram}
use Rattle.nego_expr.specs.Work.{WorkOutcome, PlainWork, IsWork, outcome_at, outcomes_at}
use Rattle.nego_expr.specs.Use.{PlainUse, Merge, Iterate, Shortcut, Close, allows, after_use, merges, iterates, enters, closes, opening_outcome}
use Rattle.nego_expr.specs.Fresh.{outcomes_of, fresh_work}
use Rattle.nego_expr.proofs.EditCalls.{allowed_at, found_itself}
use Rattle.nego_expr.proofs.FreshLists.{fresh_outcome, numbers-atoms_from, numbers-outcomes_of, All-outcomes_of}
use Rattle.nego_merge.proofs.MergeKeeps.{merges_parts, merged-pair}
use Rattle.nego_iterate.proofs.IterateKeeps.{iterated-one}
use Rattle.nego_shortcut.proofs.ShortWorks.{entry_from}
use Rattle.nego_shortcut.proofs.ShortShows.{shortcut_is}
use Rattle.nego_shortcut.proofs.CloseKeeps.{closes_parts, closed-one}
use Rattle.nego_reduce.specs.Order.{IsNextUse, has_passed, takes_shortcut}
use Rattle.nego_reduce.proofs.NextUses.{next_allowed}
use Rattle.nego_reduce.proofs.UsesLead.{uses_keep}
use Rattle.nego_reduce.proofs.bound.PassedSets.{HasPassed, passed-none}
use Rattle.nego_reduce.proofs.bound.Measures.{HasRoom, Lowers, room_of, room, merge_lowers, iteration_lowers, shortcut_lowers, closing_lowers}

-- a list of one item is that item
single : {A : Type 0} (xs : List A) → length xs ≡ 1 → (x : A) × (xs ≡ x ∷ [])
single [] e = absurd (let no_more : ⊥ = omega (arith, e) in no_more)
single (x ∷ []) e = (x, refl)
single (x ∷ y ∷ xs) e = absurd (let no_more : ⊥ = omega (arith, e) in no_more)

-- What the order's shortcut asks: what is found by the number enters the atom, hasn't passed it, and the atom has one outcome.
pub record TakesShortcut (work : PlainWork) (o n : ℕ) : Type 0 where
  pub outcome : WorkOutcome
  pub found : outcome_at work o ≡ Some outcome
  pub enters : IsTrue (enters work outcome n)
  pub fresh : is_in n outcome.passed ≡ false
  pub through : WorkOutcome
  pub one : outcomes_at work n ≡ through ∷ []

pub shortcut_parts : (work : PlainWork) (o n : ℕ) → IsTrue (takes_shortcut work o n) → TakesShortcut work o n
shortcut_parts work o n h =
    let parts = and_parts (allows work (Shortcut o n)) ((length (outcomes_at work n) == 1) && not (has_passed work o n)) h in
    let more = and_parts (length (outcomes_at work n) == 1) (not (has_passed work o n)) parts.1 in
    let x = allowed_at (λ z. enters work z n) (outcome_at work o) parts.0 in
    let y = single (outcomes_at work n) (eqb-true (length (outcomes_at work n)) 1 more.0) in
    record {
      outcome = x.0;
      found = x.1;
      enters = x.2;
      fresh = sym (ap (λ found. option_map_or (λ z. is_in n z.passed) found false) x.1) ∙ not-true (has_passed work o n) more.1;
      through = y.0;
      one = y.1;
    }

-- each next use lowers the measures
pub next_lowers : (count : ℕ) (work : PlainWork) (next : PlainUse) → IsWork work → HasRoom count work → IsNextUse work next → Lowers count work next (after_use work next)
next_lowers count work (Merge o1 o2) ok rooms h =
    let x = allowed_at (λ z. option_map_or (merges work z) (outcome_at work o2) false) (outcome_at work o1) h.allowed in
    let y = allowed_at (merges work x.0) (outcome_at work o2) x.2 in
    let two = merges_parts work x.0 y.0 (found_itself work o1 x.0 x.1) (found_itself work o2 y.0 y.1) y.2 in
    subst (Lowers count work (Merge o1 o2)) (sym (merged-pair work o1 o2 x.0 y.0 x.1 y.1)) (merge_lowers count work x.0 y.0 o1 o2 ok rooms two)
next_lowers count work (Iterate o) ok rooms h =
    let x = allowed_at (iterates work) (outcome_at work o) h.1.allowed in
    subst (Lowers count work (Iterate o)) (sym (iterated-one work o x.0 x.1)) (iteration_lowers count work x.0 o ok rooms (found_itself work o x.0 x.1))
next_lowers count work (Shortcut o n) ok rooms h =
    let k = shortcut_parts work o n h.2.taken in
    let entry = entry_from work k.outcome n (found_itself work o k.outcome k.found) k.enters in
    subst (Lowers count work (Shortcut o n)) (sym (shortcut_is work o n k.outcome k.found)) (shortcut_lowers count work k.outcome k.through o n ok rooms entry k.fresh k.one)
next_lowers count work Close ok rooms h =
    let x = allowed_at (closes work) (opening_outcome work) h.3 in
    let parts = closes_parts work x.0 x.1 x.2 in
    subst (Lowers count work Close) (sym (closed-one work x.0 x.1)) (closing_lowers count work x.0 rooms parts.apart)

-- A work with room for passed atoms.
abbrev pub IsRoomy : ℕ → PlainWork → Type 0
IsRoomy count work = IsWork work × HasRoom count work

-- each next use leaves one
pub next_roomy : (count : ℕ) (work : PlainWork) (next : PlainUse) → IsRoomy count work → IsNextUse work next → IsRoomy count (after_use work next)
next_roomy count work next h k = ((uses_keep next work h.0 (next_allowed work next k)).0, (next_lowers count work next h.0 h.1 k).rooms)

-- ---- the fresh work

module _ (diagram : PlainDiagram) where
  -- it has room for passed atoms
  pub fresh_rooms : HasRoom (length diagram.atoms) (fresh_work diagram)
  unfolding fresh_work
  fresh_rooms = record {
    below = λ m h.
        let e = ap (is_in m) (numbers-atoms_from 0 diagram.atoms) ∙ is_in-range_zero m (length diagram.atoms) in
        ltb-true m (length diagram.atoms) (sym e ∙ h);
    passed = All-outcomes_of diagram (HasPassed (length diagram.atoms) diagram.last) 0 diagram.outcomes (λ k x at. passed-none (length diagram.atoms) diagram.last (fresh_outcome diagram (0 + k) x) refl);
  }

  -- its alive outcomes are the diagram's
  pub fresh_alive : length (fresh_work diagram).outcomes ≡ length diagram.outcomes
  unfolding fresh_work
  fresh_alive =
      sym (length-map (outcomes_of diagram 0 diagram.outcomes) (λ x. x.number))
      ∙ (ap length (numbers-outcomes_of diagram 0 diagram.outcomes) ∙ length-range_with_len 0 (length diagram.outcomes))

-- where each outcome may pass so many atoms at most, all together may pass so many times the number of outcomes
pub room_most : (count most : ℕ) (work : PlainWork) → count - 2 ≤ most → room count work ≤ length work.outcomes * most
room_most count most work few = sum_by-le (room_of count) most work.outcomes (within work.outcomes)
  where
    within : (outcomes : List WorkOutcome) → All (λ x. room_of count x ≤ most) outcomes
    within [] = All-nil (λ x. room_of count x ≤ most)
    within (x ∷ xs) = All-cons (λ z. room_of count z ≤ most) x xs (omega (arith, few)) (within xs)
