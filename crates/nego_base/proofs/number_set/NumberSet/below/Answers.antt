use Rattle.nego_base.proofs.Bits.{members-below, members-rise, low_fits}
use Rattle.nego_base.proofs.number_set.NumberSet.below.Goals as goal

pub returns-clause-value : goal.returns-clause-value
returns-clause-value g c = rw c.low_bits.ensures (members-below g.row.WIDTH c.args.n c.requires.within)

pub returns-clause-rising : goal.returns-clause-rising
returns-clause-rising g c = members-rise g.row.WIDTH _

pub invariant_of-result : goal.invariant_of-result
invariant_of-result g c = rw c.low_bits.ensures (low_fits g.row.WIDTH c.args.n c.requires.width c.requires.within)
