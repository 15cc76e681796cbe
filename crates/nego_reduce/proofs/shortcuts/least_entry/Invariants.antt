use Rattle.std.proofs.Common.{◌≤◌, ◌+◌, option_map}
use Rattle.nego_expr.specs.WorkView.{plain_outcome}
use Rattle.nego_reduce.proofs.LeastEntry.{IsLeastSoFar}
use Rattle.nego_reduce.proofs.shortcuts.least_entry.Given as goal

-- the least of those to which the agents so far are sent, and one guard was tested at most for each
abbrev pub invariant-loop-a : goal.invariant-loop-a
invariant-loop-a g l = record {
  least : IsLeastSoFar l.w.plain (plain_outcome l.x) l.a (option_map (λ n. n.0) l.least);
  later : l.initial.steps ≤ l.steps;
  tests : l.steps ≤ l.initial.steps + l.a;
}
