use Rattle.std.proofs.Common.{◌≡◌, ℕ, ◌<◌, ◌≤◌, ◌/◌, ◌&&◌, length, slice_index}
use Rattle.nego_data.specs.BitRows.{is_set}
use Rattle.nego_data.proofs.bit_row.BitRow.keep.Given as goal

-- which bits are set in the words so far, and that the others are as before
abbrev pub invariant-loop-place : goal.invariant-loop-place
invariant-loop-place l = record {
  sixteen : length l.word-items ≡ 16;
  rest : (k : ℕ) → l.place ≤ k → slice_index l.word-items k ≡ slice_index l.initial.word-items k;
  joined : (e : ℕ) → e / 64 < l.place → is_set l.word-items e ≡ (is_set l.initial.word-items e && is_set l.other.words e);
}
