use Rattle.std.proofs.Common.{arith}
use Rattle.nego_model.proofs.diagrams.Undetermined.{determined, undetermined}
use Rattle.nego_model.proofs.diagram.Diagram.first_undetermined.Goals as goal

pub returns-clause-none : goal.returns-clause-none
returns-clause-none c =
    determined c.args.self.now c.outcomes-o-end.ensures.diagram (λ o a within agent. c.loop-o.invariant o a (omega (arith, within, c.outcomes-o-end.ensures.value, c.loop-o-test.false)) agent)

pub returns-in-Some-clause-exact : goal.returns-in-Some-clause-exact
returns-in-Some-clause-exact c =
    undetermined c.args.self.now c.outcomes-o-end.ensures.diagram c.loop-o.o c.in-Some.a.0 (omega (arith, c.outcomes-o-end.ensures.value, c.loop-o-test.true)) c.in-Some.ensures.two
