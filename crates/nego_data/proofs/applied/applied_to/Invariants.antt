use Rattle.std.proofs.Common.{◌≤◌, length}
use Rattle.nego_data.proofs.applied.applied_to.Given as goal

-- none of those so far has the assignments
abbrev pub invariant-loop-one : goal.invariant-loop-one
invariant-loop-one l = l.one-index ≤ length l.applied
