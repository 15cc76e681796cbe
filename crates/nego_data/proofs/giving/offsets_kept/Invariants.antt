use Rattle.std.proofs.Common.{◌≤◌, length}
use Rattle.nego_data.proofs.giving.offsets_kept.Given as goal

-- the agents aren't among those so far
abbrev pub invariant-loop-one : goal.invariant-loop-one
invariant-loop-one l = l.one-index ≤ length l.kept
