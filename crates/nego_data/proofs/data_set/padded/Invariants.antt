use Rattle.std.proofs.Common.{◌≡◌, ℕ, ◌<◌, ◌≤◌, length, slice_index}
use Rattle.nego_data.proofs.data_set.padded.Given as goal

-- the words so far are there, and 0 behind them
abbrev pub invariant-loop-k : goal.invariant-loop-k
invariant-loop-k l = record {
  sixteen : length l.row ≡ 16;
  done : (j : ℕ) → j < l.k → slice_index l.row j ≡ slice_index l.words j;
  rest : (j : ℕ) → l.k ≤ j → slice_index l.row j ≡ 0;
}
