use Rattle.std.proofs.Common.{◌≡◌, ℕ, ◌<◌, ◌≤◌, ◌/◌, ◌||◌, length, slice_index}
use Rattle.nego_data.specs.BitRows.{is_set}
use Rattle.nego_data.proofs.data_set.unite.Given as goal

-- the words so far are united, and the others as they were
abbrev pub invariant-loop-k : goal.invariant-loop-k
invariant-loop-k l = record {
  sixteen : length l.all ≡ 16;
  rest : (j : ℕ) → l.k ≤ j → slice_index l.all j ≡ slice_index l.words j;
  done : (e : ℕ) → e / 64 < l.k → is_set l.all e ≡ (is_set l.words e || is_set l.others e);
}
