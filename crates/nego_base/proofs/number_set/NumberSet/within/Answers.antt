use Rattle.nego_base.proofs.Bits.{members-within, members-rise}
use Rattle.nego_base.proofs.number_set.NumberSet.within.Goals as goal

pub returns-clause-value : goal.returns-clause-value
returns-clause-value g c = rw (← c.self.view_is, ← c.other.view_is) (members-within g.row.WIDTH c.self.inside.bits c.other.inside.bits c.self.invariant.fits c.other.invariant.fits)

pub returns-clause-members : goal.returns-clause-members
returns-clause-members g c = rw (← c.self.view_is) (members-rise g.row.WIDTH c.self.inside.bits)

pub returns-clause-others : goal.returns-clause-others
returns-clause-others g c = rw (← c.other.view_is) (members-rise g.row.WIDTH c.other.inside.bits)
