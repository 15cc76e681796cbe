use Rattle.nego_base.proofs.Bits.{members-union, members-rise, or_fits}
use Rattle.nego_base.proofs.number_set.NumberSet.union.Goals as goal

pub returns-clause-value : goal.returns-clause-value
returns-clause-value g c = rw (← c.self.view_is, ← c.other.view_is) (members-union g.row.WIDTH c.self.inside.bits c.other.inside.bits)

pub returns-clause-members : goal.returns-clause-members
returns-clause-members g c = rw (← c.self.view_is) (members-rise g.row.WIDTH c.self.inside.bits)

pub returns-clause-others : goal.returns-clause-others
returns-clause-others g c = rw (← c.other.view_is) (members-rise g.row.WIDTH c.other.inside.bits)

pub returns-clause-rising : goal.returns-clause-rising
returns-clause-rising g c = members-rise g.row.WIDTH _

pub invariant_of-result : goal.invariant_of-result
invariant_of-result g c = or_fits g.row.WIDTH c.self.inside.bits c.other.inside.bits c.self.invariant c.other.invariant
