use Rattle.std.proofs.Common.{sym, ◌∙◌, rules}
use Rattle.nego_data.proofs.SizeFaults.{answered_fault, no_zero, all_in_bounds, kept_from_bounds}
use Rattle.nego_data.proofs.joint_data.Sizes.new.Goals as goal

pub returns-in-Some-first_too_large-clause-err : goal.returns-in-Some-first_too_large-clause-err
returns-in-Some-first_too_large-clause-err c =
    (no_zero c.args.sizes.now (sym c.first_zero.ensures ∙ c.in_default.is), sym c.first_too_large.ensures ∙ c.in-Some-first_too_large.is)

pub returns-in_err-all-clause-fault : goal.returns-in_err-all-clause-fault
returns-in_err-all-clause-fault c = search rules

pub returns-in_err-all-clause-err : goal.returns-in_err-all-clause-err
returns-in_err-all-clause-err c = answered_fault c.args.sizes.now c.from_residual.result (returns-in_err-all-clause-fault c)

pub product-requires-clause-each : goal.product-requires-clause-each
product-requires-clause-each c =
    all_in_bounds c.args.sizes.now (sym c.first_zero.ensures ∙ c.in_default.is) (sym c.first_too_large.ensures ∙ c.in_default-first_too_large.is)

pub padded-requires-clause-each : goal.padded-requires-clause-each
padded-requires-clause-each c =
    all_in_bounds c.args.sizes.now (sym c.first_zero.ensures ∙ c.in_default.is) (sym c.first_too_large.ensures ∙ c.in_default-first_too_large.is)

pub invariant_of-result : goal.invariant_of-result
invariant_of-result c =
    let bounds = all_in_bounds c.args.sizes.now (sym c.first_zero.ensures ∙ c.in_default.is) (sym c.first_too_large.ensures ∙ c.in_default-first_too_large.is) in
    rw c.padded.ensures (kept_from_bounds c.args.sizes.now c.in_ok-all.all c.requires.some_agent c.requires.few_agents bounds c.in_ok-all.ensures.ok c.in_ok-all.ensures.small)

pub returns-clause-sizes : goal.returns-clause-sizes
returns-clause-sizes c =
    let bounds = all_in_bounds c.args.sizes.now (sym c.first_zero.ensures ∙ c.in_default.is) (sym c.first_too_large.ensures ∙ c.in_default-first_too_large.is) in
    rw c.padded.ensures (kept_from_bounds c.args.sizes.now c.in_ok-all.all c.requires.some_agent c.requires.few_agents bounds c.in_ok-all.ensures.ok c.in_ok-all.ensures.small).are_sizes
