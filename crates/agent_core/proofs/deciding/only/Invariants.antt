use Rattle.std.proofs.Common.{◌≡◌, ℕ, ◌<◌, false, length, slice_index_or, IsTrue}
use Rattle.nego_base.specs.Members.{is_in}
use Rattle.agent_core.proofs.deciding.only.Given as goal

-- those of the members so far are the numbers, and those of the others are 0
abbrev pub invariant-loop-p : goal.invariant-loop-p
invariant-loop-p l = record {
  long : length l.left ≡ 16;
  done : (k : ℕ) → k < l.p → IsTrue (is_in k l.agents) → slice_index_or l.left k 0 ≡ slice_index_or l.numbers k 0;
  others : (k : ℕ) → is_in k l.agents ≡ false → slice_index_or l.left k 0 ≡ 0;
}
