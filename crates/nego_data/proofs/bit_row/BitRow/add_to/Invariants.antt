use Rattle.std.proofs.Common.{◌≡◌, ℕ, ◌<◌, ◌≤◌, ◌/◌, ◌||◌, slice_index}
use Rattle.nego_data.specs.BitRows.{is_set}
use Rattle.nego_data.proofs.bit_row.BitRow.add_to.Given as goal

-- which bits are set in the words so far, and that the others are as before
abbrev pub invariant-loop-place : goal.invariant-loop-place
invariant-loop-place l = record {
  rest : (k : ℕ) → l.place ≤ k → slice_index l.row k ≡ slice_index l.initial.row k;
  added : (e : ℕ) → e / 64 < l.place → is_set l.row e ≡ (is_set l.initial.row e || is_set l.self.words e);
}
