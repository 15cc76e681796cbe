use Rattle.std.proofs.Common.{refl, arith}
use Rattle.nego_base.proofs.Members.{length-below}
use Rattle.nego_world.proofs.messages.Messages.put_decides.Goals as goal

pub loop-to-init : goal.loop-to-init
loop-to-init c = record { behind = refl; room = λ rises. omega (arith, length-below 16 c.parties_in-left.result rises, c.requires) }
