use Rattle.std.proofs.Common.{ℕ, ◌<◌, ◌≤◌, length}
use Rattle.nego_model.specs.Diagram.{nexts_of}
use Rattle.nego_model.proofs.diagram.Diagram.first_undetermined.Given as goal

-- after no outcome so far an agent has two next atoms
abbrev pub invariant-loop-o : goal.invariant-loop-o
invariant-loop-o l = (p b : ℕ) → p < l.o → b < length l.self.agents → length (nexts_of l.self p b) ≤ 1
