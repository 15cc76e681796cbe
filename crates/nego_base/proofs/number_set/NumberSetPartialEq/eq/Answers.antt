use Rattle.nego_base.proofs.Bits.{members-same}
use Rattle.nego_base.proofs.number_set.NumberSetPartialEq.eq.Goals as goal

pub returns : goal.returns
returns g c = rw (← c.self.view_is, ← c.other.view_is) (members-same g.row.WIDTH c.self.inside.bits c.other.inside.bits c.self.invariant.fits c.other.invariant.fits)
