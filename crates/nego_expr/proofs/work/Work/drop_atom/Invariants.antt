use Rattle.std.proofs.Common.{◌≡◌, ◌≤◌, length}
use Rattle.nego_expr.proofs.DroppedAtoms.{others}
use Rattle.nego_expr.proofs.work.Work.drop_atom.Given as goal

-- outcomes of other atoms stay
abbrev pub invariant-loop-x : goal.invariant-loop-x
invariant-loop-x l = record {
  others : others l.n.0 l.self.plain ≡ others l.n.0 l.initial.self.plain;
  nodes : l.initial.self.spare_nodes ≤ l.self.spare_nodes;
  outcomes : l.initial.self.spare_outcomes ≤ l.self.spare_outcomes;
}

abbrev pub decreases-loop-x : goal.decreases-loop-x
decreases-loop-x l = length l.self.plain.outcomes
