use Rattle.std.proofs.Common.{◌+◌, ◌≤◌, length, map, take}
use Rattle.nego_expr.specs.Sorted.{AreSlotsOf}
use Rattle.nego_expr.specs.WorkView.{plain_outcome}
use Rattle.nego_expr.proofs.fresh.slots_of.Given as goal

-- the slots of the outcomes so far, and room for the others
abbrev pub invariant-loop-outcome : goal.invariant-loop-outcome
invariant-loop-outcome l = AreSlotsOf (map plain_outcome (take l.outcome-index l.outcomes)) l.slots.items × (length l.outcomes ≤ l.slots.room + l.outcome-index)
