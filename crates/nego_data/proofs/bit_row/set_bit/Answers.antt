use Rattle.nego_data.proofs.BitRows.{is_set-insert}
use Rattle.nego_data.proofs.bit_row.set_bit.Goals as goal

pub returns : goal.returns
returns c = λ f. is_set-insert c.args.row.now c.args.e f c.requires
