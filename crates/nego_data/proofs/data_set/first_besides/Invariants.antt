use Rattle.std.proofs.Common.{◌+◌, ◌*◌, ◌<◌, ◌≤◌}
use Rattle.nego_data.specs.BitRows.{is_set}
use Rattle.nego_data.specs.DataSets.{IsNoneBesides}
use Rattle.nego_data.proofs.data_set.first_besides.Given as goal

-- no such number so far
abbrev pub invariant-loop-k : goal.invariant-loop-k
invariant-loop-k l = record {
  low : l.low < 64;
  begins : l.from ≤ 64 * l.k + l.low;
  none : IsNoneBesides (is_set l.words) (is_set l.others) l.from (64 * l.k + l.low);
}
