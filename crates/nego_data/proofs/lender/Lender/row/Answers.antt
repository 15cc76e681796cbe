use Rattle.std.proofs.Common.{◌≡◌, ◌<◌, [], length, slice_index_or, sym, subst, ap, ◌∙◌}
use Rattle.std.specs.Prelude.{MatchOption}
use Rattle.nego_data.specs.Lent.{IsMoved, spread_of}
use Rattle.nego_data.proofs.Lending.{fits-number, fits-spread, fits-small, fits-start, fits-moved, lent-moved}
use Rattle.nego_data.proofs.PartLaws.{datum-below, number_is, rows-of_everyone, values-fit}
use Rattle.nego_data.proofs.lender.Lender.row.Goals as goal

pub row-requires : goal.row-requires
row-requires c =
    let everyone = rows-of_everyone c.self.inside.parties c.self.inside.sizes c.self.inside.part c.self.inside.rows.now c.args.self.now c.self.invariant.is_part c.self.view_is (subst (λ o. MatchOption o (c.self.inside.part ≡ c.self.inside.sizes) (λ s. s ≡ spread_of c.self.inside.sizes c.self.inside.part)) c.in-None.is c.self.invariant.stands) in
    subst (λ table. c.args.d < length table) (sym everyone) c.requires

pub returns-in-None : goal.returns-in-None
returns-in-None c =
    let everyone = rows-of_everyone c.self.inside.parties c.self.inside.sizes c.self.inside.part c.self.inside.rows.now c.args.self.now c.self.invariant.is_part c.self.view_is (subst (λ o. MatchOption o (c.self.inside.part ≡ c.self.inside.sizes) (λ s. s ≡ spread_of c.self.inside.sizes c.self.inside.part)) c.in-None.is c.self.invariant.stands) in
    c.row.ensures.value ∙ ap (λ table. slice_index_or table c.args.d []) everyone

pub split-values-requires : goal.split-values-requires
split-values-requires c = datum-below c.self.inside.parties c.self.inside.sizes c.self.inside.part c.self.inside.rows.now c.args.self.now c.self.invariant.is_part c.self.view_is c.args.d c.requires

pub part_number-number-requires : goal.part_number-number-requires
part_number-number-requires c = values-fit c.self.inside.parties c.self.inside.sizes c.self.inside.part c.self.inside.rows.now c.args.self.now c.self.invariant.is_part c.self.view_is c.args.d c.split-values.result c.requires c.split-values.ensures.value

pub moved_row-requires-clause-number : goal.moved_row-requires-clause-number
moved_row-requires-clause-number c =
    let stands = c.as_slice.ensures ∙ subst (λ o. MatchOption o (c.self.inside.part ≡ c.self.inside.sizes) (λ s. s ≡ spread_of c.self.inside.sizes c.self.inside.part)) c.in-Some.is c.self.invariant.stands in
    let number = number_is c.self.inside.parties c.self.inside.sizes c.self.inside.part c.self.inside.rows.now c.args.self.now c.self.invariant.is_part c.self.view_is c.args.d c.part_number-number.result c.split-values.result c.split-values.ensures.value c.part_number-number.ensures.value in
    fits-number c.self.inside.parties c.self.inside.sizes c.self.inside.part c.self.inside.rows.now c.args.self.now c.self.invariant.is_part c.self.view_is
    c.as_slice.result.now stands c.args.d c.part_number-number.result c.requires number

pub moved_row-requires-clause-few : goal.moved_row-requires-clause-few
moved_row-requires-clause-few c =
    let stands = c.as_slice.ensures ∙ subst (λ o. MatchOption o (c.self.inside.part ≡ c.self.inside.sizes) (λ s. s ≡ spread_of c.self.inside.sizes c.self.inside.part)) c.in-Some.is c.self.invariant.stands in
    let number = number_is c.self.inside.parties c.self.inside.sizes c.self.inside.part c.self.inside.rows.now c.args.self.now c.self.invariant.is_part c.self.view_is c.args.d c.part_number-number.result c.split-values.result c.split-values.ensures.value c.part_number-number.ensures.value in
    fits-spread c.self.inside.parties c.self.inside.sizes c.self.inside.part c.self.inside.rows.now c.args.self.now c.self.invariant.is_part c.self.view_is
    c.as_slice.result.now stands c.args.d c.part_number-number.result c.requires number

pub moved_row-requires-clause-small : goal.moved_row-requires-clause-small
moved_row-requires-clause-small c =
    let stands = c.as_slice.ensures ∙ subst (λ o. MatchOption o (c.self.inside.part ≡ c.self.inside.sizes) (λ s. s ≡ spread_of c.self.inside.sizes c.self.inside.part)) c.in-Some.is c.self.invariant.stands in
    let number = number_is c.self.inside.parties c.self.inside.sizes c.self.inside.part c.self.inside.rows.now c.args.self.now c.self.invariant.is_part c.self.view_is c.args.d c.part_number-number.result c.split-values.result c.split-values.ensures.value c.part_number-number.ensures.value in
    fits-small c.self.inside.parties c.self.inside.sizes c.self.inside.part c.self.inside.rows.now c.args.self.now c.self.invariant.is_part c.self.view_is
    c.as_slice.result.now stands c.args.d c.part_number-number.result c.requires number

pub moved_row-requires-clause-start : goal.moved_row-requires-clause-start
moved_row-requires-clause-start c =
    let stands = c.as_slice.ensures ∙ subst (λ o. MatchOption o (c.self.inside.part ≡ c.self.inside.sizes) (λ s. s ≡ spread_of c.self.inside.sizes c.self.inside.part)) c.in-Some.is c.self.invariant.stands in
    let number = number_is c.self.inside.parties c.self.inside.sizes c.self.inside.part c.self.inside.rows.now c.args.self.now c.self.invariant.is_part c.self.view_is c.args.d c.part_number-number.result c.split-values.result c.split-values.ensures.value c.part_number-number.ensures.value in
    fits-start c.self.inside.parties c.self.inside.sizes c.self.inside.part c.self.inside.rows.now c.args.self.now c.self.invariant.is_part c.self.view_is
    c.as_slice.result.now stands c.args.d c.part_number-number.result c.requires number

pub moved_row-requires-clause-fits : goal.moved_row-requires-clause-fits
moved_row-requires-clause-fits c =
    let stands = c.as_slice.ensures ∙ subst (λ o. MatchOption o (c.self.inside.part ≡ c.self.inside.sizes) (λ s. s ≡ spread_of c.self.inside.sizes c.self.inside.part)) c.in-Some.is c.self.invariant.stands in
    let number = number_is c.self.inside.parties c.self.inside.sizes c.self.inside.part c.self.inside.rows.now c.args.self.now c.self.invariant.is_part c.self.view_is c.args.d c.part_number-number.result c.split-values.result c.split-values.ensures.value c.part_number-number.ensures.value in
    rw c.row-in-Some.ensures.value
    (fits-moved c.self.inside.parties c.self.inside.sizes c.self.inside.part c.self.inside.rows.now c.args.self.now c.self.invariant.is_part c.self.view_is
    c.as_slice.result.now stands c.args.d c.part_number-number.result c.requires number)

pub returns-in-Some : goal.returns-in-Some
returns-in-Some c =
    let stands = c.as_slice.ensures ∙ subst (λ o. MatchOption o (c.self.inside.part ≡ c.self.inside.sizes) (λ s. s ≡ spread_of c.self.inside.sizes c.self.inside.part)) c.in-Some.is c.self.invariant.stands in
    let number = number_is c.self.inside.parties c.self.inside.sizes c.self.inside.part c.self.inside.rows.now c.args.self.now c.self.invariant.is_part c.self.view_is c.args.d c.part_number-number.result c.split-values.result c.split-values.ensures.value c.part_number-number.ensures.value in
    lent-moved c.self.inside.parties c.self.inside.sizes c.self.inside.part c.self.inside.rows.now c.args.self.now c.self.invariant.is_part c.self.view_is
    c.as_slice.result.now stands c.args.d c.part_number-number.result c.requires number c.moved_row.result
    (subst (λ row. IsMoved row c.as_slice.result.now c.args.d c.part_number-number.result c.moved_row.result) c.row-in-Some.ensures.value c.moved_row.ensures)
