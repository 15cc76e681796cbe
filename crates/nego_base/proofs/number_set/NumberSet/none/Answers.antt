use Rattle.nego_base.proofs.Bits.{members-none, members-rise}
use Rattle.nego_base.proofs.number_set.NumberSet.none.Goals as goal

pub returns-clause-value : goal.returns-clause-value
returns-clause-value g c = members-none g.row.WIDTH

pub returns-clause-rising : goal.returns-clause-rising
returns-clause-rising g c = members-rise g.row.WIDTH 0
