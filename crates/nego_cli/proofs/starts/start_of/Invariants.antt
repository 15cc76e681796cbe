use Rattle.std.proofs.Common.{◌≡◌, ℕ, ◌<◌, length, slice_index}
use Rattle.nego_cli.proofs.starts.start_of.Given as goal

-- the values so far are those of the tuple, and below their agents' sizes
abbrev pub invariant-loop-a : goal.invariant-loop-a
invariant-loop-a l = record {
  long : length l.tuple ≡ 16;
  same : (k : ℕ) → k < l.a → slice_index l.tuple k ≡ slice_index l.values k;
  below : (k : ℕ) → k < l.a → slice_index l.values k < slice_index l.d.sizes k;
}
