use Rattle.std.proofs.Common.{◌≡◌, ◌+◌, ◌*◌, drop}
use Rattle.nego_data.specs.Data.{data_count, joint}
use Rattle.nego_data.specs.Kept.{sizes_kept}
use Rattle.nego_data.proofs.joint_data.Sizes.joint.Given as goal

-- the number of the values so far, and what the others add to it
abbrev pub invariant-loop-a : goal.invariant-loop-a
invariant-loop-a l =
    let sizes = sizes_kept l.self-inside in
    l.d * data_count (drop l.a sizes) + joint (drop l.a sizes) (drop l.a l.tuple) ≡ joint sizes l.tuple
