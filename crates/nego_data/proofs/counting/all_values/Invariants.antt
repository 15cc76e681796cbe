use Rattle.std.proofs.Common.{◌≡◌, ◌<◌, map}
use Rattle.std.specs.List.{range_with_len}
use Rattle.nego_data.specs.Data.{data_count, joint}
use Rattle.nego_data.specs.Sizes.{IsTuple, tuple_of}
use Rattle.nego_data.proofs.counting.all_values.Given as goal

-- the values so far, and those of the next joint data
abbrev pub invariant-loop : goal.invariant-loop
invariant-loop l = record {
  values : l.values ≡ map (tuple_of l.sizes) (range_with_len 0 l.counter);
  tuple : IsTuple l.sizes l.tuple;
  next : l.counter < data_count l.sizes → joint l.sizes l.tuple ≡ l.counter;
}
