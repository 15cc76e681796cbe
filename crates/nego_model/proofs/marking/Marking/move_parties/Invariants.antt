use Rattle.std.proofs.Common.{◌≡◌, ℕ, ◌<◌, ◌≤◌, [], slice_index_or, length, if◌then◌else◌}
use Rattle.nego_base.specs.Members.{is_in}
use Rattle.nego_model.specs.Diagram.{nexts_of}
use Rattle.nego_model.proofs.marking.Marking.move_parties.Given as goal

-- of the agents so far the parties have moved, and nobody else
abbrev pub invariant-loop-a : goal.invariant-loop-a
invariant-loop-a l = record {
  long : length l.self.ready ≡ 16;
  done : (b : ℕ) → b < l.a → slice_index_or l.self.ready b [] ≡ (if is_in b l.parties then nexts_of l.d l.o.0 b else slice_index_or l.initial.self.ready b []);
  rest : (b : ℕ) → l.a ≤ b → slice_index_or l.self.ready b [] ≡ slice_index_or l.initial.self.ready b [];
}
