use Rattle.std.proofs.Common.{◌≡◌, ◌<◌, [], slice_index_or, subst, sym, ◌∙◌, length, ap, rules, tests, arith}
use Rattle.std.proofs.lemmas.Iterator.{YieldsList-from_range}
use Rattle.std.proofs.lemmas.Iterator.Consumers.{YieldsList-from_filter, count_from_yields_List}
use Rattle.nego_data.specs.Tables.{is_related}
use Rattle.nego_data.proofs.Tables.{filter-row}
use Rattle.nego_data.proofs.PartLaws.{table-seen, rows-of_everyone}
use Rattle.nego_data.proofs.table.Table.count.Goals as goal

pub returns-clause-value : goal.returns-clause-value
returns-clause-value c =
    let table = c.args.self.now in
    let all = c.all-all.ensures.value in
    count_from_yields_List c.filter.result c.count-2.result c.count-2.ensures.ran
    (YieldsList-from_filter _ (λ e. is_related table c.args.d e) (YieldsList-from_range 0 c.all-all.result (length table) (search rules) (omega (arith, all))) c.filter.ensures.closure (λ x r q k. search (rules, tests)))
    ∙ ap length (filter-row table c.args.d c.all-all.ensures.table c.requires)

pub count-requires : goal.count-requires
count-requires c =
    let everyone : c.self.inside.part ≡ c.self.inside.sizes = c.are_same.ensures c.if-are_same.true in
    let same = rows-of_everyone c.self.inside.parties c.self.inside.sizes c.self.inside.part c.self.inside.rows c.args.self.now c.self.invariant c.self.view_is everyone in
    subst (λ table. c.args.d < length table) (sym same) c.requires

pub returns-then-are_same-clause-value : goal.returns-then-are_same-clause-value
returns-then-are_same-clause-value c =
    let everyone : c.self.inside.part ≡ c.self.inside.sizes = c.are_same.ensures c.if-are_same.true in
    let same = rows-of_everyone c.self.inside.parties c.self.inside.sizes c.self.inside.part c.self.inside.rows c.args.self.now c.self.invariant c.self.view_is everyone in
    c.count.ensures.value ∙ ap (λ table. length (slice_index_or table c.args.d [])) same

pub returns-then-are_same-clause-table : goal.returns-then-are_same-clause-table
returns-then-are_same-clause-table c = table-seen c.self.inside.parties c.self.inside.sizes c.self.inside.part c.self.inside.rows c.args.self.now c.self.invariant c.self.view_is
