use Rattle.std.proofs.Common.{ℕ, ◌<◌, ◌≤◌, length}
use Rattle.nego_model.specs.Diagram.{nexts_of}
use Rattle.nego_model.proofs.diagram.Diagram.undetermined_after.Given as goal

-- no agent so far has two next atoms
abbrev pub invariant-loop-a : goal.invariant-loop-a
invariant-loop-a l = (b : ℕ) → b < l.a → length (nexts_of l.self l.o.0 b) ≤ 1
