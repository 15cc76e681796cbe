use Rattle.std.proofs.Common.{Some, ap, subst, sym, ◌∙◌}
use Rattle.std.specs.List.{All}
use Rattle.nego_data.specs.declared.cases.Case.{Case}
use Rattle.nego_data.specs.CaseForm.{TestBelow, SetBelow}
use Rattle.nego_reader.specs.declared.parsed.Parsed.{Parsed}
use Rattle.nego_reader.specs.Content.{content_of, case_content}
use Rattle.nego_shape.specs.declared.fault.ShapeKind.TheVariants as kinds
use Rattle.nego_shape.proofs.PartiesListed.{parties_of}
use Rattle.nego_shape.proofs.RuleSets.{tests_below, sets_below, sets_inside, none_over, least_over, none_outside, least_outside}
use Rattle.nego_shape.proofs.checks.outcomes.on_case.Goals as goal

pub overfull-requires-clause-sets : goal.overfull-requires-clause-sets
overfull-requires-clause-sets c =
    sets_inside c.args.p.now c.requires.names.few_agents c.args.o c.args.case.now c.requires.case c.args.n c.args.rule c.in-NoLargeValue.is c.args.own.now c.requires.own
    c.as_slice.result.now (c.as_slice.ensures ∙ ap (λ (q : Parsed). q.agents) c.text.ensures) c.as_slice-in-NoLargeValue.result.now c.as_slice-in-NoLargeValue.ensures

pub returns-in_err-a : goal.returns-in_err-a
returns-in_err-a c =
    c.from_residual.ensures
    ∙ none_over c.args.p.now c.requires.names.few_agents c.args.o c.args.case.now c.requires.case c.args.n c.args.rule c.in-NoLargeValue.is c.args.own.now c.requires.own
    c.as_slice.result.now (c.as_slice.ensures ∙ ap (λ (q : Parsed). q.agents) c.text.ensures) c.as_slice-in-NoLargeValue.result.now c.as_slice-in-NoLargeValue.ensures c.overfull.result c.overfull.ensures.rising c.overfull.ensures.members c.in_err-a.ensures.value

pub returns-in-NoLargeValue : goal.returns-in-NoLargeValue
returns-in-NoLargeValue c =
    ap (λ line. Some (record { line = line; kind = kinds.ValueTooLarge (record { 0 = c.args.o }) c.in_ok-a.a })) c.case_line-line.ensures
    ∙ least_over c.args.p.now c.requires.names.few_agents c.args.o c.args.case.now c.requires.case c.args.n c.args.rule c.in-NoLargeValue.is c.args.own.now c.requires.own
    c.as_slice.result.now (c.as_slice.ensures ∙ ap (λ (q : Parsed). q.agents) c.text.ensures) c.as_slice-in-NoLargeValue.result.now c.as_slice-in-NoLargeValue.ensures c.overfull.result c.overfull.ensures.rising c.overfull.ensures.members c.in_ok-a.a c.in_ok-a.ensures.value

pub tested-requires : goal.tested-requires
tested-requires c =
    subst (All (TestBelow 16)) (sym (c.as_slice-2.ensures ∙ ap (λ (x : Case). x.tests) c.requires.own)) (tests_below (content_of c.args.p.now) c.requires.names.few_agents (case_content c.args.case.now) c.requires.case)

pub assigned-requires : goal.assigned-requires
assigned-requires c =
    subst (All (SetBelow 16)) (sym (c.as_slice-3.ensures ∙ ap (λ (x : Case). x.sets) c.requires.own)) (sets_below (content_of c.args.p.now) c.requires.names.few_agents (case_content c.args.case.now) c.requires.case)

pub returns-in_err-a-2 : goal.returns-in_err-a-2
returns-in_err-a-2 c =
    c.from_residual-in_err-a-2.ensures
    ∙ none_outside c.args.p.now c.requires.names.few_agents c.args.o c.args.case.now c.requires.case c.args.n c.args.rule c.in_default.not-NoLargeValue c.args.own.now c.requires.own c.as_slice-2.result.now c.as_slice-2.ensures c.as_slice-3.result.now c.as_slice-3.ensures
    c.tested.result c.assigned.result c.union-named.result _ c.difference.result c.tested.ensures.members c.assigned.ensures.members c.union-named.ensures.rising c.union-named.ensures.value c.difference.ensures.value
    (parties_of c.args.p.now c.args.numbers.now c.requires.numbers c.args.n c.index-numbers-n.result c.requires.atom) c.in_err-a-2.ensures.value

pub returns : goal.returns
returns c =
    ap (λ line. Some (record { line = line; kind = kinds.NotParty (record { 0 = c.args.o }) c.in_ok-a-2.a })) c.case_line-line.ensures
    ∙ least_outside c.args.p.now c.requires.names.few_agents c.args.o c.args.case.now c.requires.case c.args.n c.args.rule c.in_default.not-NoLargeValue c.args.own.now c.requires.own c.as_slice-2.result.now c.as_slice-2.ensures c.as_slice-3.result.now c.as_slice-3.ensures
    c.tested.result c.assigned.result c.union-named.result _ c.difference.result c.tested.ensures.members c.assigned.ensures.members c.union-named.ensures.rising c.union-named.ensures.value c.difference.ensures.value
    (parties_of c.args.p.now c.args.numbers.now c.requires.numbers c.args.n c.index-numbers-n.result c.requires.atom) c.in_ok-a-2.a c.in_ok-a-2.ensures.value
