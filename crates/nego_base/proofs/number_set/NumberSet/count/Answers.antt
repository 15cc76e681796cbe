use Rattle.nego_base.proofs.Bits.{members-count, members-rise}
use Rattle.nego_base.proofs.number_set.NumberSet.count.Goals as goal

pub returns-clause-value : goal.returns-clause-value
returns-clause-value g c = rw (← c.self.view_is) (members-count g.row.WIDTH c.self.inside.bits c.self.invariant.fits)

pub returns-clause-members : goal.returns-clause-members
returns-clause-members g c = rw (← c.self.view_is) (members-rise g.row.WIDTH c.self.inside.bits)
