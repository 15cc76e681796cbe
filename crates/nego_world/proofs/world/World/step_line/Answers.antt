use Rattle.std.proofs.Common.{sym, subst}
use Rattle.nego_world.specs.Events.{plain_event}
use Rattle.nego_world.specs.Stepping.{HasLineFault}
use Rattle.nego_world.proofs.Lines.{line-fault}
use Rattle.nego_world.proofs.world.World.step_line.Goals as goal

pub returns-in-Err-clause-err : goal.returns-in-Err-clause-err
returns-in-Err-clause-err c =
    let now = c.args.self.now in
    let line = c.args.line.now in
    subst (HasLineFault c.args.d.now now line.line (plain_event line.event)) (sym c.fault_at.ensures) (line-fault c.args.d.now now line.line (plain_event line.event) c.in-Err.fault c.in-Err.ensures.err)
