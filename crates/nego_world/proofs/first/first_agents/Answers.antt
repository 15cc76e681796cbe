use Rattle.std.proofs.Common.{◌≡◌, ℕ, [], ◌∷◌, ◌++◌, length, map, slice_index, sym, ap, ◌∙◌, arith}
use Rattle.std.specs.List.{range_with_len}
use Rattle.nego_data.proofs.Tuples.{at-tuple_of}
use Rattle.nego_data.specs.Data.{split}
use Rattle.agent_core.specs.Agents.{PlainAgent, beginning}
use Rattle.agent_core.specs.Deciding.{value_in}
use Rattle.std.proofs.lemmas.List.{map-append, length-map}
use Rattle.std.proofs.lemmas.List.FromFn.{map-range_with_len_more, length-map-range_with_len}
use Rattle.nego_world.proofs.first.first_agents.Goals as goal

pub loop-a-preserved : goal.loop-a-preserved
loop-a-preserved c =
    let d = c.args.d.now in
    let f : ℕ → PlainAgent = λ b. beginning d b (value_in d c.args.start b) in
    let value : slice_index c.split-values.result c.loop-a.a ≡ value_in d c.args.start c.loop-a.a =
    ap (λ xs. slice_index xs c.loop-a.a) c.split-values.ensures.value ∙ (at-tuple_of c.sizes.result.now c.args.start c.loop-a.a ∙ ap (λ s. slice_index (split s c.args.start) c.loop-a.a) c.sizes.ensures) in
    record {
      begun = ap (map (λ agent. agent.plain)) c.in_ok-push.ensures.ok
          ∙ (map-append (λ agent. agent.plain) c.loop-a.agents (c.in_ok-first_agent.field-0 ∷ [])
          ∙ (ap (λ xs. xs ++ c.in_ok-first_agent.field-0.plain ∷ []) c.loop-a.invariant.begun
          ∙ (ap (λ x. map f (range_with_len 0 c.loop-a.a) ++ x ∷ []) (c.in_ok-first_agent.ensures ∙ ap (beginning d c.loop-a.a) value)
          ∙ sym (map-range_with_len_more f 0 c.loop-a.a c.loop-a.a (omega arith)))));
    }

pub returns-clause-few : goal.returns-clause-few
returns-clause-few c =
    let d = c.args.d.now in
    let f : ℕ → PlainAgent = λ b. beginning d b (value_in d c.args.start b) in
    omega (arith, ap length c.loop-a.invariant.begun, length-map c.loop-a.agents (λ agent. agent.plain), length-map-range_with_len f 0 c.loop-a.a, c.loop-a-test.false, c.agents-a-end.ensures.value, c.agents-a-end.ensures.limits.few_agents)
