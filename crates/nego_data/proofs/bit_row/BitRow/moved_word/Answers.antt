use Rattle.std.proofs.Common.{arith}
use Rattle.nego_data.proofs.BitRows.{moved_word_bits}
use Rattle.nego_data.proofs.bit_row.BitRow.moved_word.Goals as goal

pub returns : goal.returns
returns c = moved_word_bits c.args.self.now.words c.args.place c.args.by c.word_below-high.result c.word_below-low.result (omega arith) c.word_below-high.ensures c.word_below-low.ensures
