use Rattle.std.proofs.Common.{refl}
use Rattle.nego_expr.proofs.UsableWorks.{roomier}
use Rattle.nego_expr.proofs.work.Work.room.Goals as goal

pub invariant_of-self-in_err-reserve-2 : goal.invariant_of-self-in_err-reserve-2
invariant_of-self-in_err-reserve-2 c =
    let w = c.self.inside in
    roomier w c.reserve.new.self c.reserve-2.new.self w.slots w.members c.reserve.ensures.nodes c.reserve-2.ensures.items refl refl c.self.invariant

pub invariant_of-self-in_err-reserve-3 : goal.invariant_of-self-in_err-reserve-3
invariant_of-self-in_err-reserve-3 c =
    let w = c.self.inside in
    roomier w c.reserve.new.self c.reserve-2.new.self c.reserve-3.new.self w.members c.reserve.ensures.nodes c.reserve-2.ensures.items c.reserve-3.ensures.items refl c.self.invariant

pub invariant_of-self-in_err-reserve-4 : goal.invariant_of-self-in_err-reserve-4
invariant_of-self-in_err-reserve-4 c =
    roomier c.self.inside c.reserve.new.self c.reserve-2.new.self c.reserve-3.new.self c.reserve-4.new.self c.reserve.ensures.nodes c.reserve-2.ensures.items c.reserve-3.ensures.items c.reserve-4.ensures.items c.self.invariant

pub invariant_of-self-2 : goal.invariant_of-self-2
invariant_of-self-2 c =
    roomier c.self.inside c.reserve.new.self c.reserve-2.new.self c.reserve-3.new.self c.reserve-4.new.self c.reserve.ensures.nodes c.reserve-2.ensures.items c.reserve-3.ensures.items c.reserve-4.ensures.items c.self.invariant
