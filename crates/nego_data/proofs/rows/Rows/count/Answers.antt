use Rattle.std.proofs.Common.{◌∙◌, length, ap, rules, tests, arith}
use Rattle.std.proofs.lemmas.Iterator.{YieldsList-from_range}
use Rattle.std.proofs.lemmas.Iterator.Consumers.{YieldsList-from_filter, count_from_yields_List}
use Rattle.nego_data.specs.Tables.{is_related}
use Rattle.nego_data.proofs.Tables.{filter-row}
use Rattle.nego_data.proofs.rows.Rows.count.Goals as goal

pub returns-clause-value : goal.returns-clause-value
returns-clause-value c =
    let table = c.args.self.now in
    let all = c.all-all.ensures.value in
    count_from_yields_List c.filter.result c.count.result c.count.ensures.ran
    (YieldsList-from_filter _ (λ e. is_related table c.args.d e) (YieldsList-from_range 0 c.all-all.result (length table) (search rules) (omega (arith, all))) c.filter.ensures.closure (λ x r q k. search (rules, tests)))
    ∙ ap length (filter-row table c.args.d c.all-all.ensures.table c.requires)
