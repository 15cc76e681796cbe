use Rattle.nego_data.proofs.KeptSizes.{IsSplitTo}
use Rattle.nego_data.proofs.joint_data.Sizes.split.Given as goal

abbrev pub invariant-loop-a : goal.invariant-loop-a
invariant-loop-a l = IsSplitTo l.self-inside l.d l.tuple l.a l.rest
