use Rattle.std.proofs.Common.{◌≡◌, ℕ, ◌<◌, length, map, slice_index_or, sym, ap, subst, ◌∙◌, arith}
use Rattle.std.proofs.lemmas.List.FromFn.{get_or-map-range_with_len, length-map-range_with_len}
use Rattle.std.specs.Option.{option_map_or}
use Rattle.std.specs.List.{range_with_len}
use Rattle.nego_data.specs.Data.{joint}
use Rattle.agent_core.specs.Agents.{size_of}
use Rattle.agent_core.specs.Deciding.{known_of}
use Rattle.agent_core.proofs.Known.{joint-same, known-below}
use Rattle.agent_core.proofs.agent.Agent.known_joint.Goals as goal

pub joint-requires : goal.joint-requires
joint-requires c =
    let d = c.args.d.now in
    let sizes = c.sizes.ensures in
    λ a below.
    let below' : a < length d.sizes = subst (λ xs. a < length xs) sizes below in
    let agent : a < length d.agents = omega (arith, below', c.known_values-values.ensures.diagram.sized) in
    let some : 0 < size_of d a = c.known_values-values.ensures.diagram.some_value a 0 below' in
    subst (λ v. v < slice_index_or c.sizes.result.now a 0) (sym (c.known_values-values.ensures.values a agent))
    (subst (λ xs. option_map_or (λ ready. ready.value) (known_of d c.args.self.now.plain c.args.n.0 a) 0 < slice_index_or xs a 0) (sym sizes) (known-below d c.args.self.now.plain c.args.n.0 a c.requires.valid some))

pub returns-clause-value : goal.returns-clause-value
returns-clause-value c =
    let d = c.args.d.now in
    let value = λ (p : ℕ). option_map_or (λ ready. ready.value) (known_of d c.args.self.now.plain c.args.n.0 p) 0 in
    let sized : length d.sizes ≡ length d.agents = c.known_values-values.ensures.diagram.sized in
    let values = map value (range_with_len 0 (length d.agents)) in
    c.joint.ensures.value ∙ (ap (λ xs. joint xs c.known_values-values.result) c.sizes.ensures
    ∙ joint-same d.sizes c.known_values-values.result values (omega (arith, c.joint.ensures.sizes.few_agents, ap length c.sizes.ensures)) (omega (arith, sized, length-map-range_with_len value 0 (length d.agents))) (λ a below.
    let agent : a < length d.agents = omega (arith, below, sized) in
    c.known_values-values.ensures.values a agent ∙ sym (get_or-map-range_with_len value 0 (length d.agents) a a 0 agent (omega arith))))
