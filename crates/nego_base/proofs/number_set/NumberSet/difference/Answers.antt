use Rattle.nego_base.proofs.Bits.{members-difference, members-rise, fits_word}
use Rattle.nego_base.proofs.number_set.NumberSet.difference.Goals as goal

pub returns-clause-value : goal.returns-clause-value
returns-clause-value g c = rw (← c.self.view_is, ← c.other.view_is) (members-difference g.row.WIDTH c.self.inside.bits c.other.inside.bits c.self.invariant.narrow (fits_word g.row.WIDTH c.other.inside.bits c.other.invariant))

pub returns-clause-members : goal.returns-clause-members
returns-clause-members g c = rw (← c.self.view_is) (members-rise g.row.WIDTH c.self.inside.bits)

pub returns-clause-others : goal.returns-clause-others
returns-clause-others g c = rw (← c.other.view_is) (members-rise g.row.WIDTH c.other.inside.bits)

pub returns-clause-rising : goal.returns-clause-rising
returns-clause-rising g c = members-rise g.row.WIDTH _
