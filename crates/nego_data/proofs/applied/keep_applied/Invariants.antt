use Rattle.std.proofs.Common.{◌≡◌}
use Rattle.nego_data.proofs.applied.keep_applied.Given as goal

-- nothing is changed so far
abbrev pub invariant-loop-i : goal.invariant-loop-i
invariant-loop-i l = l.applied ≡ l.initial.applied
