use Rattle.std.proofs.Common.{◌≡◌, ℕ, ◌<◌, [], slice_index_or}
use Rattle.nego_model.proofs.marking.Marking.is_final.Given as goal

-- the agents so far are ready for nothing
abbrev pub invariant-loop-a : goal.invariant-loop-a
invariant-loop-a l = (b : ℕ) → b < l.a → slice_index_or l.self.ready b [] ≡ []
