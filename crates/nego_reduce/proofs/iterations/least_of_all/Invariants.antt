use Rattle.std.proofs.Common.{◌≡◌, ◌≤◌, ◌+◌, false}
use Rattle.nego_expr.specs.Use.{Iterate, allows}
use Rattle.nego_reduce.proofs.Searching.{HoldsBefore}
use Rattle.nego_reduce.proofs.iterations.least_of_all.Given as goal

-- none so far may be iterated, and one guard was tested for each
abbrev pub invariant-loop-x : goal.invariant-loop-x
invariant-loop-x g l = record {
  none : HoldsBefore (λ p. allows l.w.plain (Iterate p) ≡ false) l.w.plain l.x-index;
  later : l.initial.steps ≤ l.steps;
  tests : l.steps ≤ l.initial.steps + l.x-index;
}
