use Rattle.std.proofs.Common.{◌≡◌, ◌≤◌, ◌+◌, ◌*◌, ℕ, false, length}
use Rattle.nego_reduce.specs.Order.{takes_shortcut}
use Rattle.nego_reduce.proofs.Searching.{HoldsBefore}
use Rattle.nego_reduce.proofs.shortcuts.least_shortcut.Given as goal

-- the order takes no shortcut of any so far, for each of which 16 guards were tested at most
abbrev pub invariant-loop-i : goal.invariant-loop-i
invariant-loop-i g l = record {
  none : HoldsBefore (λ p. (m : ℕ) → takes_shortcut l.w.plain p m ≡ false) l.w.plain l.i;
  within : l.i ≤ length l.w.plain.outcomes;
  later : l.initial.steps ≤ l.steps;
  tests : l.steps ≤ l.initial.steps + 16 * l.i;
}
