use Rattle.nego_shape.proofs.EdgeSteps.{FoundSoFar}
use Rattle.nego_shape.proofs.edges.before.Given as goal

abbrev pub invariant-loop-o : goal.invariant-loop-o
invariant-loop-o l = FoundSoFar l.d l.n.0 l.found l.o
