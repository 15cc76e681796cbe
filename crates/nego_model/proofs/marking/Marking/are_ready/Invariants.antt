use Rattle.std.proofs.Common.{ℕ, ◌<◌, [], slice_index_or, IsTrue}
use Rattle.nego_base.specs.Members.{is_in}
use Rattle.nego_model.proofs.marking.Marking.are_ready.Given as goal

-- the parties so far are ready for the atom
abbrev pub invariant-loop-a : goal.invariant-loop-a
invariant-loop-a l = (b : ℕ) → b < l.a → IsTrue (is_in b l.parties) → IsTrue (is_in l.n.0 (slice_index_or l.self.ready b []))
