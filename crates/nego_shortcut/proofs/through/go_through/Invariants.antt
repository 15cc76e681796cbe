use Rattle.std.proofs.Common.{◌-◌}
use Rattle.nego_expr.specs.WorkView.{plain_outcome}
use Rattle.nego_shortcut.proofs.Passed.{IsUpTo}
use Rattle.nego_shortcut.proofs.through.go_through.Given as goal

-- the atom's outcomes of lower numbers are passed
abbrev pub invariant-loop-y : goal.invariant-loop-y
invariant-loop-y l = IsUpTo l.initial.w.plain l.n.0 (plain_outcome l.x) l.from.0 l.w.plain l.is_first l.w.spare_nodes l.w.spare_outcomes

abbrev pub decreases-loop-y : goal.decreases-loop-y
decreases-loop-y l = 4294967296 - l.from.0
