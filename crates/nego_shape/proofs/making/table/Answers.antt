use Rattle.std.proofs.Common.{◌≡◌, List, map, sym, subst, ◌∙◌}
use Rattle.std.specs.List.{All}
use Rattle.std.proofs.lemmas.List.Elements.{All-contains}
use Rattle.nego_data.specs.declared.cases.Case.{Case}
use Rattle.nego_data.specs.Cases.{rows_of}
use Rattle.nego_data.specs.CaseForm.{NamesOnly, AssignsOnce, AssignsBelow, AllCovered, IsFirstUncovered, HasTableFault}
use Rattle.nego_reader.specs.Content.{content_of, out_content, case_content}
use Rattle.nego_shape.specs.Naming.{PlacedOut, agent_names, sizes_in, all_outs, parties_at, cases_in}
use Rattle.nego_shape.specs.Shaped.{IsDeclared, IsNamedParty, AreDifferent, case_names, assigned_names}
use Rattle.nego_shape.specs.Made.{placed_at}
use Rattle.nego_shape.proofs.ShapedCases.{cases_in-named, cases_in-once}
use Rattle.nego_shape.proofs.PartsMade.{cases_read}
use Rattle.nego_shape.proofs.RuleLists.{empty_uncovered}
use Rattle.nego_shape.proofs.FirstUncovered.{told_uncovered}
use Rattle.nego_shape.proofs.making.table.Goals as goal

pub table-requires-clause-named : goal.table-requires-clause-named
table-requires-clause-named c =
    let c0 = content_of c.args.p.now in
    let cases : c.args.cases.now ≡ cases_in c0 (out_content c.args.out.now) =
    c.requires.cases ∙ cases_read c0 c.args.out.now.cases in
    subst (λ ps. All (NamesOnly ps) c.args.cases.now) (sym c.requires.parties) (subst (λ (cs : List Case). All (NamesOnly (parties_at c0 c.args.n)) cs) (sym cases)
    (cases_in-named c0 (parties_at c0 c.args.n) (map case_content c.args.out.now.cases) (All-contains (λ (placed : PlacedOut). All (λ case. All (IsNamedParty c0 placed.atom) (case_names case)) placed.out.cases) (all_outs c0) (placed_at c.args.n (out_content c.args.out.now)) c.requires.shaped.parties_alone c.requires.out)))

pub table-requires-clause-once : goal.table-requires-clause-once
table-requires-clause-once c =
    let c0 = content_of c.args.p.now in
    let cases : c.args.cases.now ≡ cases_in c0 (out_content c.args.out.now) =
    c.requires.cases ∙ cases_read c0 c.args.out.now.cases in
    subst (λ (cs : List Case). All AssignsOnce cs) (sym cases)
    (cases_in-once c0 (map case_content c.args.out.now.cases)
    (All-contains (λ (placed : PlacedOut). All (λ case. All (IsDeclared (agent_names c0)) (case_names case)) placed.out.cases) (all_outs c0) (placed_at c.args.n (out_content c.args.out.now)) c.requires.shaped.declared.cases c.requires.out)
    (All-contains (λ (placed : PlacedOut). All (λ case. AreDifferent (assigned_names case)) placed.out.cases) (all_outs c0) (placed_at c.args.n (out_content c.args.out.now)) c.requires.shaped.named_once.assigned c.requires.out))

pub table-requires-clause-fits : goal.table-requires-clause-fits
table-requires-clause-fits c =
    let c0 = content_of c.args.p.now in
    let cases : c.args.cases.now ≡ cases_in c0 (out_content c.args.out.now) =
    c.requires.cases ∙ cases_read c0 c.args.out.now.cases in
    subst (λ sizes. All (AssignsBelow sizes) c.args.cases.now) (sym c.requires.sizes) (subst (λ (cs : List Case). All (AssignsBelow (sizes_in c0)) cs) (sym cases)
    (All-contains (λ (placed : PlacedOut). All (AssignsBelow (sizes_in c0)) (cases_in c0 placed.out)) (all_outs c0) (placed_at c.args.n (out_content c.args.out.now)) c.requires.shaped.below c.requires.out))

pub returns-in-Ok-clause-rows : goal.returns-in-Ok-clause-rows
returns-in-Ok-clause-rows c =
    let c0 = content_of c.args.p.now in
    let cases : c.args.cases.now ≡ cases_in c0 (out_content c.args.out.now) =
    c.requires.cases ∙ cases_read c0 c.args.out.now.cases in
    subst (λ sizes. c.in-Ok.table ≡ rows_of sizes (cases_in c0 (out_content c.args.out.now))) c.requires.sizes
    (subst (λ (cs : List Case). c.in-Ok.table ≡ rows_of c.args.maker.now.sizes cs) cases c.in-Ok.ensures.rows)

pub returns-in-Ok-clause-total : goal.returns-in-Ok-clause-total
returns-in-Ok-clause-total c =
    let c0 = content_of c.args.p.now in
    let cases : c.args.cases.now ≡ cases_in c0 (out_content c.args.out.now) =
    c.requires.cases ∙ cases_read c0 c.args.out.now.cases in
    empty_uncovered c0 c.args.o.0 c.args.out.now
    (subst (λ (cs : List Case). AllCovered (sizes_in c0) cs) cases (subst (λ sizes. AllCovered sizes c.args.cases.now) c.requires.sizes c.in-Ok.ensures.covered))

pub returns-in-Err-NotTotal-clause-err : goal.returns-in-Err-NotTotal-clause-err
returns-in-Err-NotTotal-clause-err c =
    let c0 = content_of c.args.p.now in
    let cases : c.args.cases.now ≡ cases_in c0 (out_content c.args.out.now) =
    c.requires.cases ∙ cases_read c0 c.args.out.now.cases in
    let d = c.in-Err-NotTotal.d in
    let fault : IsFirstUncovered c.args.maker.now.sizes c.args.cases.now d =
    subst (HasTableFault c.args.maker.now.sizes c.args.cases.now) c.in-Err-NotTotal.field-0-is c.in-Err-NotTotal.ensures.err in
    told_uncovered c0 c.args.o.0 c.args.out.now d
    (subst (λ (cs : List Case). IsFirstUncovered (sizes_in c0) cs d) cases (subst (λ sizes. IsFirstUncovered sizes c.args.cases.now d) c.requires.sizes fault))
