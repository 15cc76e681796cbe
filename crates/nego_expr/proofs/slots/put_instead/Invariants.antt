use Rattle.std.proofs.Common.{◌≡◌, ◌+◌, ◌-◌, ◌<◌, length, map}
use Rattle.std.specs.List.{remove}
use Rattle.nego_expr.specs.Sorted.{plain_slot}
use Rattle.nego_expr.proofs.slots.put_instead.Given as goal

-- without what is at the gap the slots are those that were before, without the one that is taken away
abbrev pub invariant-loop-gap : goal.invariant-loop-gap
invariant-loop-gap l =
    (l.gap < length l.slots.items)
    × (length l.slots.items ≡ length l.fn.slots.items)
    × (l.slots.room ≡ l.fn.slots.room)
    × (remove (map plain_slot l.slots.items) l.gap ≡ remove (map plain_slot l.fn.slots.items) l.fn.from)

abbrev pub decreases-loop-gap : goal.decreases-loop-gap
decreases-loop-gap l = (l.gap - l.to) + (l.to - l.gap)
