use Rattle.std.proofs.Common.{◌≤◌, ◌-◌, length}
use Rattle.nego_expr.specs.Work.{outcomes_at}
use Rattle.nego_expr.proofs.ThenEach.{IsUpTo}
use Rattle.nego_expr.proofs.work.Work.then_each.Given as goal

-- the atom's outcomes of lower numbers have their nodes
abbrev pub invariant-loop-y : goal.invariant-loop-y
invariant-loop-y l = record {
  up_to : IsUpTo l.initial.self.plain l.x.0 l.n.0 (l.initial.self.spare_nodes - length (outcomes_at l.initial.self.plain l.n.0)) l.from.0 l.self.plain l.self.spare_nodes;
  kept : l.initial.self.spare_outcomes ≤ l.self.spare_outcomes;
}

abbrev pub decreases-loop-y : goal.decreases-loop-y
decreases-loop-y l = 4294967296 - l.from.0
