use Rattle.std.proofs.Common.{◌≡◌, ◌∙◌, ◌<◌, ◌&&◌, [], length, slice_index_or, sym, subst, ap}
use Rattle.nego_base.specs.Members.{is_in}
use Rattle.nego_data.proofs.PartLaws.{datum-below, table-seen, values-fit, related-seen, rows-of_everyone}
use Rattle.nego_data.proofs.table.Table.related.Goals as goal

pub split-old-requires : goal.split-old-requires
split-old-requires c = datum-below c.self.inside.parties c.self.inside.sizes c.self.inside.part c.self.inside.rows c.args.self.now c.self.invariant c.self.view_is c.args.d c.requires.from

pub split-new-requires : goal.split-new-requires
split-new-requires c = datum-below c.self.inside.parties c.self.inside.sizes c.self.inside.part c.self.inside.rows c.args.self.now c.self.invariant c.self.view_is c.args.e c.requires.to

pub part_number-d-requires : goal.part_number-d-requires
part_number-d-requires c = values-fit c.self.inside.parties c.self.inside.sizes c.self.inside.part c.self.inside.rows c.args.self.now c.self.invariant c.self.view_is c.args.d c.split-old.result c.requires.from c.split-old.ensures.value

pub part_number-e-requires : goal.part_number-e-requires
part_number-e-requires c = values-fit c.self.inside.parties c.self.inside.sizes c.self.inside.part c.self.inside.rows c.args.self.now c.self.invariant c.self.view_is c.args.e c.split-new.result c.requires.to c.split-new.ensures.value

pub returns-then-are_kept-clause-value : goal.returns-then-are_kept-clause-value
returns-then-are_kept-clause-value c =
    c.related-then-are_kept.ensures.value
    ∙ sym (ap (λ b. b && is_in c.part_number-e.result (slice_index_or c.self.inside.rows c.part_number-d.result [])) c.if-are_kept.true)
    ∙ related-seen c.self.inside.parties c.self.inside.sizes c.self.inside.part c.self.inside.rows c.args.self.now c.self.invariant c.self.view_is c.args.d c.args.e
    c.part_number-d.result c.part_number-e.result c.split-old.result c.split-new.result c.are_kept.result c.requires.from c.requires.to c.split-old.ensures.value c.split-new.ensures.value
    c.part_number-d.ensures.value c.part_number-e.ensures.value c.are_kept.ensures

pub returns-then-are_kept-clause-table : goal.returns-then-are_kept-clause-table
returns-then-are_kept-clause-table c = table-seen c.self.inside.parties c.self.inside.sizes c.self.inside.part c.self.inside.rows c.args.self.now c.self.invariant c.self.view_is

pub returns-else-are_kept-clause-value : goal.returns-else-are_kept-clause-value
returns-else-are_kept-clause-value c =
    c.if-are_kept.false
    ∙ sym (ap (λ b. b && is_in c.part_number-e.result (slice_index_or c.self.inside.rows c.part_number-d.result [])) c.if-are_kept.false)
    ∙ related-seen c.self.inside.parties c.self.inside.sizes c.self.inside.part c.self.inside.rows c.args.self.now c.self.invariant c.self.view_is c.args.d c.args.e
    c.part_number-d.result c.part_number-e.result c.split-old.result c.split-new.result c.are_kept.result c.requires.from c.requires.to c.split-old.ensures.value c.split-new.ensures.value
    c.part_number-d.ensures.value c.part_number-e.ensures.value c.are_kept.ensures

pub returns-else-are_kept-clause-table : goal.returns-else-are_kept-clause-table
returns-else-are_kept-clause-table c = table-seen c.self.inside.parties c.self.inside.sizes c.self.inside.part c.self.inside.rows c.args.self.now c.self.invariant c.self.view_is

pub related-requires-clause-from : goal.related-requires-clause-from
related-requires-clause-from c =
    let everyone : c.self.inside.part ≡ c.self.inside.sizes = c.are_same.ensures c.if-are_same.true in
    let same = rows-of_everyone c.self.inside.parties c.self.inside.sizes c.self.inside.part c.self.inside.rows c.args.self.now c.self.invariant c.self.view_is everyone in
    subst (λ table. c.args.d < length table) (sym same) c.requires.from

pub related-requires-clause-to : goal.related-requires-clause-to
related-requires-clause-to c =
    let everyone : c.self.inside.part ≡ c.self.inside.sizes = c.are_same.ensures c.if-are_same.true in
    let same = rows-of_everyone c.self.inside.parties c.self.inside.sizes c.self.inside.part c.self.inside.rows c.args.self.now c.self.invariant c.self.view_is everyone in
    subst (λ table. c.args.e < length table) (sym same) c.requires.to

pub returns-then-are_same-clause-value : goal.returns-then-are_same-clause-value
returns-then-are_same-clause-value c =
    let everyone : c.self.inside.part ≡ c.self.inside.sizes = c.are_same.ensures c.if-are_same.true in
    let same = rows-of_everyone c.self.inside.parties c.self.inside.sizes c.self.inside.part c.self.inside.rows c.args.self.now c.self.invariant c.self.view_is everyone in
    c.related.ensures.value ∙ ap (λ table. is_in c.args.e (slice_index_or table c.args.d [])) same

pub returns-then-are_same-clause-table : goal.returns-then-are_same-clause-table
returns-then-are_same-clause-table c = table-seen c.self.inside.parties c.self.inside.sizes c.self.inside.part c.self.inside.rows c.args.self.now c.self.invariant c.self.view_is
