use Rattle.std.proofs.Common.{◌+◌, ◌≤◌, length, map, take}
use Rattle.nego_expr.specs.Sorted.{AreMembersOf}
use Rattle.nego_expr.specs.WorkView.{plain_outcome}
use Rattle.nego_expr.proofs.fresh.members_of.Given as goal

-- the slots without targets of the outcomes so far, and room for the others
abbrev pub invariant-loop-outcome : goal.invariant-loop-outcome
invariant-loop-outcome l = AreMembersOf (map plain_outcome (take l.outcome-index l.outcomes)) l.members.items × (length l.outcomes ≤ l.members.room + l.outcome-index)
