use Rattle.std.proofs.Common.{sym, ap, ◌∙◌}
use Rattle.nego_shape.specs.Faults.{first_fault}
use Rattle.nego_shape.proofs.InnerStage.{sizes, by_rules, in_parties, in_outcomes, in_sizes, in_values}
use Rattle.nego_shape.proofs.finding.inner_fault.Goals as goal

pub returns-in-Some : goal.returns-in-Some
returns-in-Some c = in_parties c.args.p.now c.in-Some.fault (sym c.party_fault.ensures ∙ c.in-Some.is)

pub returns-in-Some-first_broken : goal.returns-in-Some-first_broken
returns-in-Some-first_broken c =
    let p = c.args.p.now in
    in_outcomes p c.in-Some-first_broken.fault (sym c.party_fault.ensures ∙ c.in_default.is) (sym (by_rules p) ∙ (sym c.first_broken.ensures ∙ c.in-Some-first_broken.is))

pub returns-in-Some-2 : goal.returns-in-Some-2
returns-in-Some-2 c =
    let p = c.args.p.now in
    in_sizes p c.in-Some-2.fault (sym c.party_fault.ensures ∙ c.in_default.is) (sym (by_rules p) ∙ (sym c.first_broken.ensures ∙ c.in_default-first_broken.is))
    (sym (ap (first_fault (sizes p)) c.text.ensures) ∙ (sym c.in_ok-fault.ensures ∙ c.in-Some-2.is))

pub returns : goal.returns
returns c =
    let p = c.args.p.now in
    in_values p (sym c.party_fault.ensures ∙ c.in_default.is) (sym (by_rules p) ∙ (sym c.first_broken.ensures ∙ c.in_default-first_broken.is))
    (sym (ap (first_fault (sizes p)) c.text.ensures) ∙ (sym c.in_ok-fault.ensures ∙ c.in_default-2.is)) c.broken.result c.broken.ensures
