use Rattle.nego_base.proofs.Bits.{members-without, members-rise}
use Rattle.nego_base.proofs.number_set.NumberSet.without.Goals as goal

pub returns-clause-value : goal.returns-clause-value
returns-clause-value g c = rw (← c.self.view_is) (members-without g.row.WIDTH c.args.x c.self.inside.bits c.self.invariant.narrow c.requires)

pub returns-clause-members : goal.returns-clause-members
returns-clause-members g c = rw (← c.self.view_is) (members-rise g.row.WIDTH c.self.inside.bits)

pub returns-clause-rising : goal.returns-clause-rising
returns-clause-rising g c = members-rise g.row.WIDTH _
