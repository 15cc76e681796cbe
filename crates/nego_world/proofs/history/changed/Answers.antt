use Rattle.std.proofs.Common.{◌≡◌, ◌<◌, length, map, slice_index_or, sym, ap, subst, ◌∙◌, arith}
use Rattle.std.proofs.lemmas.List.FromFn.{get_or-map-range_with_len, length-map-range_with_len}
use Rattle.std.specs.List.{range_with_len}
use Rattle.nego_data.specs.Data.{joint}
use Rattle.nego_data.proofs.JointData.{split-below}
use Rattle.agent_msg.specs.Records.{entry}
use Rattle.agent_core.specs.Agents.{shares_in}
use Rattle.agent_core.proofs.Known.{joint-same}
use Rattle.nego_world.specs.Stepping.{value_after_in}
use Rattle.nego_world.proofs.Entries.{value-after-below}
use Rattle.nego_world.proofs.history.changed.Goals as goal

pub joint-requires : goal.joint-requires
joint-requires c =
    let d = c.args.d.now in
    let shares = shares_in (entry c.args.r.now) in
    let sizes = c.sizes.ensures in
    λ a below.
    let below' : a < length d.sizes = subst (λ xs. a < length xs) sizes below in
    let agent : a < length d.agents = omega (arith, below', c.values_after-values.ensures.diagram.sized) in
    subst (λ v. v < slice_index_or c.sizes.result.now a 0) (sym (c.values_after-values.ensures.values a agent))
    (subst (λ xs. value_after_in d c.args.joint shares a < slice_index_or xs a 0) (sym sizes) (value-after-below d c.args.joint shares a c.requires.afters (split-below d.sizes c.args.joint a c.requires.joint below')))

pub returns : goal.returns
returns c =
    let d = c.args.d.now in
    let shares = shares_in (entry c.args.r.now) in
    let sized : length d.sizes ≡ length d.agents = c.values_after-values.ensures.diagram.sized in
    let value = value_after_in d c.args.joint shares in
    let values = map value (range_with_len 0 (length d.agents)) in
    c.joint.ensures.value ∙ (ap (λ xs. joint xs c.values_after-values.result) c.sizes.ensures
    ∙ joint-same d.sizes c.values_after-values.result values (omega (arith, c.joint.ensures.sizes.few_agents, ap length c.sizes.ensures)) (omega (arith, sized, length-map-range_with_len value 0 (length d.agents))) (λ a below.
    let agent : a < length d.agents = omega (arith, below, sized) in
    c.values_after-values.ensures.values a agent ∙ sym (get_or-map-range_with_len value 0 (length d.agents) a a 0 agent (omega arith))))
