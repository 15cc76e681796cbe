use Rattle.std.proofs.Common.{◌*◌, ap, ◌∙◌, rules}
use Rattle.nego_data.specs.Tables.{rows_of_words}
use Rattle.nego_data.proofs.Words.{rows_of_zeros}
use Rattle.nego_data.proofs.rows.Rows.empty.Goals as goal

pub returns : goal.returns
returns c =
    ap (rows_of_words c.args.all) (c.in_ok-words.ensures.items_if_clones_equal (λ y h. search rules))
    ∙ rows_of_zeros c.args.all (c.args.all * c.row_words.result)
