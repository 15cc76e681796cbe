use Rattle.std.proofs.Common.{arith}
use Rattle.nego_data.proofs.DataSets.{no_bit, found_bit}
use Rattle.nego_data.proofs.data_set.least_bit.Goals as goal

pub returns-then-left-eq0 : goal.returns-then-left-eq0
returns-then-left-eq0 c = no_bit c.args.word c.args.other c.args.low c.ranges.word.fits c.ranges.other.fits c.requires c.if-left-eq0.true

pub returns : goal.returns
returns c = found_bit c.args.word c.args.other c.args.low c.ranges.word.fits c.ranges.other.fits c.requires (omega arith)
