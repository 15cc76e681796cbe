use Rattle.std.proofs.Common.{◌∙◌, ap, sym, subst, arith}
use Rattle.nego_data.specs.Tables.{IsTable}
use Rattle.nego_data.specs.Cases.{rows_of}
use Rattle.nego_data.specs.Parts.{part_sizes}
use Rattle.nego_data.proofs.Additions.{table_of_cases}
use Rattle.nego_data.proofs.Identity.{relates_to_itself, keep_all-covers}
use Rattle.nego_data.proofs.Makers.{seen-part, seen-named, seen-fits}
use Rattle.nego_data.proofs.table_maker.TableMaker.part_rows.Goals as goal

pub returns-then-keep_all-clause-rows : goal.returns-then-keep_all-clause-rows
returns-then-keep_all-clause-rows c =
    let inside = c.self.inside in
    let part = inside.part in
    let cases = c.args.cases.now in
    let rows = c.in_ok-identity.field-0 in
    let all = c.all.ensures.value in
    table_of_cases part cases rows (subst (λ n. IsTable n rows) all c.in_ok-identity.ensures.table)
    (λ d e h k. c.in_ok-identity.ensures.related d e (omega (arith, h, all)) (omega (arith, k, all)) ∙ relates_to_itself part d e h k cases (sym c.keep_all.ensures ∙ c.if-keep_all.true))
    ∙ ap (λ p. rows_of p cases) (seen-part inside.parties inside.sizes part inside.values inside.known inside.offsets c.self.invariant c.args.self.now c.self.view_is)

pub returns-then-keep_all-clause-covered : goal.returns-then-keep_all-clause-covered
returns-then-keep_all-clause-covered c = keep_all-covers (part_sizes c.args.self.now.parties c.args.self.now.sizes) c.args.cases.now (sym c.keep_all.ensures ∙ c.if-keep_all.true)

pub rows_of_cases-requires-clause-offsets : goal.rows_of_cases-requires-clause-offsets
rows_of_cases-requires-clause-offsets c = c.forget_offsets.ensures c.self.inside.part c.self.invariant.offsets

pub rows_of_cases-requires-clause-named : goal.rows_of_cases-requires-clause-named
rows_of_cases-requires-clause-named c =
    let inside = c.self.inside in
    seen-named inside.parties inside.sizes inside.part inside.values inside.known inside.offsets c.self.invariant c.args.self.now c.self.view_is c.args.cases.now c.requires.named

pub rows_of_cases-requires-clause-fits : goal.rows_of_cases-requires-clause-fits
rows_of_cases-requires-clause-fits c =
    let inside = c.self.inside in
    seen-fits inside.parties inside.sizes inside.part inside.values inside.known inside.offsets c.self.invariant c.args.self.now c.self.view_is c.args.cases.now c.requires.named c.requires.fits
