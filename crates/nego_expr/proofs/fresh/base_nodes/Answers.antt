use Rattle.std.proofs.Common.{ap, arith}
use Rattle.nego_model.specs.Expression.{Base}
use Rattle.nego_expr.proofs.FreshSteps.{pushed}
use Rattle.nego_expr.proofs.fresh.base_nodes.Goals as goal

pub loop-o-preserved : goal.loop-o-preserved
loop-o-preserved c =
    let o = c.loop-o.o in
    (pushed Base 0 o c.loop-o.nodes.nodes c.push.new.self.nodes (Base o) c.push.ensures.nodes c.loop-o.invariant.0 (ap Base (omega arith)), omega (arith, c.push.ensures.room, c.loop-o.invariant.1, c.loop-o-test.true))
