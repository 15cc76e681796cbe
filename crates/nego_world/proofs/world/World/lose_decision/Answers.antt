use Rattle.std.proofs.Common.{arith}
use Rattle.agent_core.specs.Worlds.{Decide, StopsBefore}
use Rattle.nego_world.specs.Stepping.{HasStepFault}
use Rattle.nego_world.proofs.Acting.{fault-is, lost-decision}
use Rattle.nego_world.proofs.world.World.lose_decision.Goals as goal

pub stop-requires : goal.stop-requires
stop-requires c = omega (arith, c.requires.consistent.count, c.requires.known)

pub returns-clause-ok : goal.returns-clause-ok
returns-clause-ok c = lost-decision c.args.d.now c.args.self.now _ c.args.a.0 c.args.c _ c.stop.result c.in_ok-decision.ensures.ok (c.stop.ensures c.args.d.now)

pub returns-in_err-decision-clause-err : goal.returns-in_err-decision-clause-err
returns-in_err-decision-clause-err c = fault-is (HasStepFault c.args.d.now c.args.self.now (Decide c.args.a.0 c.args.c StopsBefore)) c.from_residual.result c.in_err-decision.field-0.0 c.from_residual.ensures.1 (c.in_err-decision.ensures.err StopsBefore)
