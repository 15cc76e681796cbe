use Rattle.std.proofs.Common.{map}
use Rattle.nego_expr.specs.Sorted.{plain_slot}
use Rattle.nego_reduce.proofs.Twins.{IsLeastSoFar}
use Rattle.nego_reduce.proofs.merges.least_of_all.Given as goal

-- the least pair of the neighbours so far
abbrev pub invariant-loop-i : goal.invariant-loop-i
invariant-loop-i l = IsLeastSoFar l.w.plain (map plain_slot l.slots) l.i l.least
