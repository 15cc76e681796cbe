use Rattle.std.proofs.Common.{sym}
use Rattle.nego_world.proofs.Acting.{refused-given}
use Rattle.nego_world.proofs.world.World.to_give.Goals as goal

pub returns-in-None-clause-err : goal.returns-in-None-clause-err
returns-in-None-clause-err c = λ diagram ending. refused-given diagram c.args.self.now c.args.i ending (sym c.in-None.ensures)
