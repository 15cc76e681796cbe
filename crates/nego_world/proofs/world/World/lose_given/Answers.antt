use Rattle.std.proofs.Common.{arith}
use Rattle.agent_msg.specs.Messages.{message}
use Rattle.agent_core.specs.Worlds.{Give, StopsBefore}
use Rattle.nego_world.specs.Stepping.{HasStepFault}
use Rattle.nego_world.proofs.Acting.{fault-is, lost-given}
use Rattle.nego_world.proofs.Moves.{addressee-below}
use Rattle.nego_world.proofs.Happening.{Contains_at}
use Rattle.nego_world.proofs.world.World.lose_given.Goals as goal

pub stop-requires : goal.stop-requires
stop-requires c =
    omega (arith, c.requires.consistent.count, c.addressee.ensures, addressee-below c.args.d.now c.requires.diagram c.requires.deterministic c.args.self.now c.requires.consistent (message c.in_ok-m.m) (Contains_at c.args.self.now.sent c.args.i (message c.in_ok-m.m) c.in_ok-m.ensures.ok))

pub returns-clause-ok : goal.returns-clause-ok
returns-clause-ok c = lost-given c.args.d.now c.args.self.now _ c.args.i c.addressee.result.0 (message c.in_ok-m.m) c.stop.result c.in_ok-m.ensures.ok c.addressee.ensures (c.stop.ensures c.args.d.now)

pub returns-in_err-m-clause-err : goal.returns-in_err-m-clause-err
returns-in_err-m-clause-err c = fault-is (HasStepFault c.args.d.now c.args.self.now (Give c.args.i StopsBefore)) c.from_residual.result c.in_err-m.field-0.0 c.from_residual.ensures.1 (c.in_err-m.ensures.err c.args.d.now StopsBefore)
