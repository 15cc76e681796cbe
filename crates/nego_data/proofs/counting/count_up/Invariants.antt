use Rattle.std.proofs.Common.{◌≡◌, ◌+◌, drop}
use Rattle.nego_data.specs.Data.{data_count, joint}
use Rattle.nego_data.specs.Sizes.{IsTuple}
use Rattle.nego_data.proofs.counting.count_up.Given as goal

-- the agents so far have 0, and one more of the agents before is still to be counted
abbrev pub invariant-loop-a : goal.invariant-loop-a
invariant-loop-a l = record {
  tuple : IsTuple l.sizes l.tuple;
  left : joint l.sizes l.tuple + data_count (drop l.a l.sizes) ≡ joint l.sizes l.initial.tuple + 1;
}
