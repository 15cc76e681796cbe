use Rattle.std.proofs.Common.{◌≡◌, ℕ, ◌<◌, slice_index, length}
use Rattle.std.specs.Prelude.{if◌then◌else◌}
use Rattle.nego_base.specs.Members.{is_in}
use Rattle.nego_data.proofs.parts.part_values.Given as goal

-- the values so far
abbrev pub invariant-loop-k : goal.invariant-loop-k
invariant-loop-k l = record {
  long : length l.part ≡ 16;
  filled : (j : ℕ) → j < l.k → slice_index l.part j ≡ (if is_in j l.parties then slice_index l.values j else 0);
}
