use Rattle.std.proofs.Common.{◌≡◌, ◌∙◌, ℕ, ◌<◌, ◌≤◌, length, slice_index, ap, arith}
use Rattle.nego_data.specs.Data.{joint}
use Rattle.nego_data.proofs.Additions.{joint-same}
use Rattle.nego_cli.proofs.starts.start_of.Goals as goal

pub returns-clause-at : goal.returns-clause-at
returns-clause-at c =
    let d = c.args.d.now in
    let values = c.args.values.now in
    let tuple = c.loop-a.tuple in
    let one_each : length values ≡ length d.agents = omega (arith, c.if-values-agents.false, c.agents.ensures.value) in
    let sized : length d.sizes ≡ length d.agents = c.agents.ensures.diagram.sized in
    let all : length values ≤ c.loop-a.a = c.loop-a-test.false in
    let few : length d.agents ≤ 16 = c.agents.ensures.limits.few_agents in
    let long : length tuple ≡ 16 = c.loop-a.invariant.long in
    let below : (a : ℕ) → a < length d.sizes → slice_index values a < slice_index d.sizes a = λ a h. c.loop-a.invariant.below a (omega (arith, h, all, one_each, sized)) in
    let same : (a : ℕ) → a < length d.sizes → slice_index tuple a ≡ slice_index values a = λ a h. c.loop-a.invariant.same a (omega (arith, h, all, one_each, sized)) in
    let numbers : joint d.sizes tuple ≡ joint d.sizes values = joint-same d.sizes tuple values (omega (arith, long, few, sized)) (omega (arith, one_each, sized)) same in
    (one_each, below, c.joint.ensures.value ∙ (ap (λ sizes. joint sizes tuple) c.sizes-2.ensures ∙ numbers))
