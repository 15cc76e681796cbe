use Rattle.std.proofs.Common.{◌∙◌, sym, subst, ap, arith}
use Rattle.nego_data.specs.Tables.{IsPacked, rows_of_words}
use Rattle.nego_data.proofs.Lending.{lent-row}
use Rattle.nego_data.proofs.Words.{is_table_seen, row_there}
use Rattle.nego_data.proofs.rows.Rows.row.Goals as goal

pub slice_bounds-below-end : goal.slice_bounds-below-end
slice_bounds-below-end c =
    let there = row_there c.self.inside.all c.self.inside.words.items c.args.self.now c.self.invariant c.self.view_is c.args.d c.requires c.row_words-words.result c.row_words-words.ensures in
    omega (arith, there, c.deref.ensures.len, c.self.inside.words.ok.0)

pub returns-clause-value : goal.returns-clause-value
returns-clause-value c =
    let all = c.self.inside.all in
    let words = c.deref.result.now in
    let packed = subst (IsPacked all) (sym c.deref.ensures.value) c.self.invariant in
    let seen = ap (rows_of_words all) c.deref.ensures.value ∙ c.self.view_is in
    lent-row all words c.args.self.now packed seen c.args.d c.requires c.row_words-words.result c.row_words-words.ensures c.below.result c.below.ensures.rising c.below.ensures.value

pub returns-clause-table : goal.returns-clause-table
returns-clause-table c = is_table_seen c.self.inside.all c.self.inside.words.items c.args.self.now c.self.view_is
