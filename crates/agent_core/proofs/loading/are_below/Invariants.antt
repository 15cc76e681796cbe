use Rattle.std.proofs.Common.{ℕ, ◌<◌, slice_index_or, IsTrue}
use Rattle.nego_base.specs.Members.{is_in}
use Rattle.agent_core.specs.Agents.{size_of}
use Rattle.agent_core.proofs.loading.are_below.Given as goal

-- the values of the parties so far are below their sizes
abbrev pub invariant-loop-p : goal.invariant-loop-p
invariant-loop-p l = (k : ℕ) → k < l.p → IsTrue (is_in k l.parties) → slice_index_or l.values k 0 < size_of l.d k
