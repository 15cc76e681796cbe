use Rattle.std.proofs.Common.{arith}
use Rattle.nego_data.proofs.bit_row.BitRow.add.Goals as goal

pub returns : goal.returns
returns c e h = c.add_to.ensures e (omega (arith, h))
