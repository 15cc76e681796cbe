use Rattle.std.proofs.Common.{◌≡◌, ◌-◌, ◌/◌, ◌%◌, length, set, slice_index, ap, ◌∙◌, rules, arith}
use Rattle.std.specs.Prelude.{bit_and}
use Rattle.nego_data.specs.BitRows.{is_set}
use Rattle.nego_data.proofs.DataSets.{cut-set, one_bit}
use Rattle.nego_data.proofs.data_set.cut.Goals as goal

pub returns-then-count-ne0-clause-words : goal.returns-then-count-ne0-clause-words
returns-then-count-ne0-clause-words c = λ e within.
    let row = c.args.row.now in
    let count = c.args.count in
    let sixteen : length row ≡ 16 = search rules in
    ap (λ bit. is_set (set row (count / 64) (bit_and (slice_index row (count / 64)) (bit - 1))) e) (one_bit (count % 64) (omega arith))
    ∙ cut-set row count c.if-count-ne0.true (omega (arith, sixteen, c.requires, c.if-count-ne0.true)) e within
