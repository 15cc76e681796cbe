use Rattle.nego_base.proofs.Bits.{members-has, members-rise}
use Rattle.nego_base.proofs.number_set.NumberSet.has.Goals as goal

pub returns-clause-value : goal.returns-clause-value
returns-clause-value g c = rw (← c.self.view_is) (members-has g.row.WIDTH c.args.x c.self.inside.bits c.requires)

pub returns-clause-members : goal.returns-clause-members
returns-clause-members g c = rw (← c.self.view_is) (members-rise g.row.WIDTH c.self.inside.bits)
