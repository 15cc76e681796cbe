-- What the guards say of an outcome that isn't alive, and what they say where they hold.
use Rattle.std.proofs.Common.{◌≡◌, ℕ, ◌<◌, ◌&&◌, not, ◌==◌, length, Some, None, false, IsTrue, ap}
use Rattle.std.specs.Prelude.{nat_lt}
use Rattle.std.specs.Option.{option_map_or}
use Rattle.std.proofs.lemmas.Bool.{and_parts, ltb-true}
use Rattle.nego_expr.specs.Work.{WorkOutcome, PlainWork, outcome_at, outcomes_at, work_parties}
use Rattle.nego_expr.specs.Use.{Merge, Iterate, Close, allows, merges, iterates, enters, closes, opening_outcome, send_alike}
use Rattle.nego_expr.proofs.EditCalls.{allowed_at, found_itself}
use Rattle.nego_merge.proofs.MergeKeeps.{Merges, merges_parts}
use Rattle.nego_shortcut.proofs.CloseKeeps.{closes_parts}
use Rattle.nego_reduce.specs.Order.{has_passed, takes_shortcut}

-- ---- outcomes that aren't alive

pub dead_iteration : (work : PlainWork) (p : ℕ) → outcome_at work p ≡ None → allows work (Iterate p) ≡ false
dead_iteration work p e = ap (λ f. option_map_or (iterates work) f false) e

pub dead_shortcut : (work : PlainWork) (p : ℕ) → outcome_at work p ≡ None → (m : ℕ) → takes_shortcut work p m ≡ false
dead_shortcut work p e m = ap (λ f. option_map_or (λ x. enters work x m) f false && ((length (outcomes_at work m) == 1) && not (has_passed work p m))) e

-- ---- guards that hold

pub merging_two : (work : PlainWork) (o1 o2 : ℕ) → IsTrue (allows work (Merge o1 o2)) → (x : WorkOutcome) × (y : WorkOutcome) × (outcome_at work o1 ≡ Some x) × (outcome_at work o2 ≡ Some y) × Merges work x y × (x.number < y.number)
merging_two work o1 o2 h =
    let one = allowed_at (λ z. option_map_or (merges work z) (outcome_at work o2) false) (outcome_at work o1) h in
    let two = allowed_at (merges work one.0) (outcome_at work o2) one.2 in (
      one.0,
      two.0,
      one.1,
      two.1,
      merges_parts work one.0 two.0 (found_itself work o1 one.0 one.1) (found_itself work o2 two.0 two.1) two.2,
      ltb-true one.0.number two.0.number (and_parts (nat_lt one.0.number two.0.number) ((one.0.atom == two.0.atom) && (not (one.0.atom == work.last) && send_alike (work_parties work one.0.atom) one.0 two.0)) two.2).0,
    )

pub closing_two : (work : PlainWork) → IsTrue (allows work Close) → length work.atoms ≡ 2
closing_two work h = let k = allowed_at (closes work) (opening_outcome work) h in (closes_parts work k.0 k.1 k.2).two
