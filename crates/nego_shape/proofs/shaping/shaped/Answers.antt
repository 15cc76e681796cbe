use Rattle.std.proofs.Common.{◌≡◌, [], sym, ap, subst, lit<, ◌∙◌}
use Rattle.std.specs.Prelude.{IfOk}
use Rattle.std.proofs.lemmas.Result.{IfOk-weaker, IfErr-weaker, err_from_is_err_and}
use Rattle.nego_reader.specs.declared.parsed.Parsed.{Parsed}
use Rattle.nego_reader.specs.Content.{content_of}
use Rattle.nego_shape.specs.declared.fault.ShapeAnswer.TheVariants.{Off}
use Rattle.nego_shape.specs.Answer.{Tells, HasCause}
use Rattle.nego_shape.specs.Faults.{faults, first_of, first_fault, inner}
use Rattle.nego_shape.specs.Naming.{diagram_in}
use Rattle.nego_shape.specs.Conditions.{IsFormed, Holds, HasShape, SomeAgent, FewAgents, FewAtoms, FewOutcomes, NamedOnce, AllDeclared, AllCovered}
use Rattle.nego_shape.specs.Shaped.{HasNameWords}
use Rattle.nego_shape.specs.Made.{HasNumbers}
use Rattle.nego_shape.proofs.FormLaws.{met_form}
use Rattle.nego_shape.proofs.Stages.{met_all, none_first, counts_met, counts_told, inner_met, inner_told, own_met, own_told}
use Rattle.nego_shape.proofs.shaping.shaped.Goals as goal

pub new-requires-clause-agents : goal.new-requires-clause-agents
new-requires-clause-agents c = counts_met c.args.p.now (sym c.count_fault.ensures ∙ c.in_default.is) FewAgents (lit< tt)

pub new-requires-clause-atoms : goal.new-requires-clause-atoms
new-requires-clause-atoms c = counts_met c.args.p.now (sym c.count_fault.ensures ∙ c.in_default.is) FewAtoms (lit< tt)

pub new-requires-clause-named_once : goal.new-requires-clause-named_once
new-requires-clause-named_once c =
    let p = c.args.p.now in
    own_met p NamedOnce (counts_met p (sym c.count_fault.ensures ∙ c.in_default.is)) (none_first p NamedOnce (sym c.in_ok-fault.ensures ∙ c.in_default-2.is)) NamedOnce (lit< tt)

pub returns-in-Some-clause-err : goal.returns-in-Some-clause-err
returns-in-Some-clause-err c = counts_told c.args.p.now c.in-Some.fault (sym c.count_fault.ensures ∙ c.in-Some.is)

pub returns-in-Some-2-clause-err : goal.returns-in-Some-2-clause-err
returns-in-Some-2-clause-err c =
    let p = c.args.p.now in
    own_told p NamedOnce (counts_met p (sym c.count_fault.ensures ∙ c.in_default.is)) (Off c.in-Some-2.fault) (sym c.in_ok-fault.ensures ∙ c.in-Some-2.is)

pub returns-in_err-numbers-clause-err : goal.returns-in_err-numbers-clause-err
returns-in_err-numbers-clause-err c =
    let p = c.args.p.now in
    let e = c.in_err-numbers.field-0.0 in
    let met = own_met p NamedOnce (counts_met p (sym c.count_fault.ensures ∙ c.in_default.is)) (none_first p NamedOnce (sym c.in_ok-fault.ensures ∙ c.in_default-2.is)) in
    let told = err_from_is_err_and c.from_residual-in_err-numbers.result c.from_residual-in_err-numbers.ensures.1 in
    rw (told.1, told.2) (own_told p AllDeclared met e (subst (λ q. Tells e (first_of (faults AllDeclared q))) c.in_ok-numbered.ensures c.in_err-numbers.ensures.err))

pub inner_fault-requires-clause-some_agent : goal.inner_fault-requires-clause-some_agent
inner_fault-requires-clause-some_agent c =
    subst (λ (p : Parsed). Holds SomeAgent (content_of p)) (sym c.in_ok-numbered.ensures) (counts_met c.args.p.now (sym c.count_fault.ensures ∙ c.in_default.is) SomeAgent (lit< tt))

pub inner_fault-requires-clause-few_outcomes : goal.inner_fault-requires-clause-few_outcomes
inner_fault-requires-clause-few_outcomes c =
    subst (λ (p : Parsed). Holds FewOutcomes (content_of p)) (sym c.in_ok-numbered.ensures) (counts_met c.args.p.now (sym c.count_fault.ensures ∙ c.in_default.is) FewOutcomes (lit< tt))

pub inner_fault-requires-clause-names : goal.inner_fault-requires-clause-names
inner_fault-requires-clause-names c =
    let p = c.args.p.now in
    let once = own_met p NamedOnce (counts_met p (sym c.count_fault.ensures ∙ c.in_default.is)) (none_first p NamedOnce (sym c.in_ok-fault.ensures ∙ c.in_default-2.is)) in
    let met = own_met p AllDeclared once (subst (λ q. faults AllDeclared q ≡ []) c.in_ok-numbered.ensures c.in_ok-numbers.ensures.declared) in
    subst (λ (q : Parsed). HasNumbers (content_of q)) (sym c.in_ok-numbered.ensures)
    (record { few_agents = met FewAgents (lit< tt); few_atoms = met FewAtoms (lit< tt); named_once = met NamedOnce (lit< tt); declared = met AllDeclared (lit< tt) })

pub returns-in-Some-3-clause-err : goal.returns-in-Some-3-clause-err
returns-in-Some-3-clause-err c =
    let p = c.args.p.now in
    let once = own_met p NamedOnce (counts_met p (sym c.count_fault.ensures ∙ c.in_default.is)) (none_first p NamedOnce (sym c.in_ok-fault.ensures ∙ c.in_default-2.is)) in
    let met = own_met p AllDeclared once (subst (λ q. faults AllDeclared q ≡ []) c.in_ok-numbered.ensures c.in_ok-numbers.ensures.declared) in
    inner_told p met c.in-Some-3.fault (sym (ap (first_fault inner) c.in_ok-numbered.ensures) ∙ (sym c.in_ok-fault-2.ensures ∙ c.in-Some-3.is))

pub diagram-requires-clause-shaped : goal.diagram-requires-clause-shaped
diagram-requires-clause-shaped c =
    let p = c.args.p.now in
    let once = own_met p NamedOnce (counts_met p (sym c.count_fault.ensures ∙ c.in_default.is)) (none_first p NamedOnce (sym c.in_ok-fault.ensures ∙ c.in_default-2.is)) in
    let met = own_met p AllDeclared once (subst (λ q. faults AllDeclared q ≡ []) c.in_ok-numbered.ensures c.in_ok-numbers.ensures.declared) in
    let inside = inner_met p met (sym (ap (first_fault inner) c.in_ok-numbered.ensures) ∙ (sym c.in_ok-fault-2.ensures ∙ c.in_default-3.is)) in
    subst (λ (q : Parsed). IsFormed (content_of q)) (sym c.in_ok-numbered.ensures) (met_form (content_of p) inside)

pub diagram-requires-clause-named : goal.diagram-requires-clause-named
diagram-requires-clause-named c =
    subst (λ (p : Parsed). HasNameWords (content_of p)) (sym c.in_ok-numbered.ensures) c.requires

pub returns-clause-content : goal.returns-clause-content
returns-clause-content c = subst (λ (p : Parsed). IfOk c.diagram.result (λ d. d ≡ diagram_in (content_of p))) c.in_ok-numbered.ensures c.diagram.ensures.content

pub returns-clause-shaped : goal.returns-clause-shaped
returns-clause-shaped c =
    let p = c.args.p.now in
    let once = own_met p NamedOnce (counts_met p (sym c.count_fault.ensures ∙ c.in_default.is)) (none_first p NamedOnce (sym c.in_ok-fault.ensures ∙ c.in_default-2.is)) in
    let met = own_met p AllDeclared once (subst (λ q. faults AllDeclared q ≡ []) c.in_ok-numbered.ensures c.in_ok-numbers.ensures.declared) in
    let inside = inner_met p met (sym (ap (first_fault inner) c.in_ok-numbered.ensures) ∙ (sym c.in_ok-fault-2.ensures ∙ c.in_default-3.is)) in
    IfOk-weaker c.diagram.result (λ _. faults AllCovered c.in_ok-numbered.numbered ≡ []) (λ _. HasShape (content_of p))
    (λ _ h. met_all (content_of p) (own_met p AllCovered inside (subst (λ q. faults AllCovered q ≡ []) c.in_ok-numbered.ensures h))) c.diagram.ensures.total

pub returns-clause-err : goal.returns-clause-err
returns-clause-err c =
    let p = c.args.p.now in
    let once = own_met p NamedOnce (counts_met p (sym c.count_fault.ensures ∙ c.in_default.is)) (none_first p NamedOnce (sym c.in_ok-fault.ensures ∙ c.in_default-2.is)) in
    let met = own_met p AllDeclared once (subst (λ q. faults AllDeclared q ≡ []) c.in_ok-numbered.ensures c.in_ok-numbers.ensures.declared) in
    let inside = inner_met p met (sym (ap (first_fault inner) c.in_ok-numbered.ensures) ∙ (sym c.in_ok-fault-2.ensures ∙ c.in_default-3.is)) in
    IfErr-weaker c.diagram.result (λ e. Tells e (first_of (faults AllCovered c.in_ok-numbered.numbered))) (λ e. HasCause e p)
    (λ e h. own_told p AllCovered inside e (subst (λ q. Tells e (first_of (faults AllCovered q))) c.in_ok-numbered.ensures h)) c.diagram.ensures.err
