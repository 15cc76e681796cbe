use Rattle.std.proofs.Common.{◌≡◌, ◌≢◌, ◌<◌, length, slice_index, refl, ap, ◌∙◌, arith, below_more, get_or-set_other, get_or-set_same}
use Rattle.std.proofs.lemmas.List.{length-set}
use Rattle.std.specs.Option.{option_map_or}
use Rattle.nego_data.specs.Data.{split}
use Rattle.nego_data.proofs.Tuples.{at-tuple_of}
use Rattle.agent_msg.specs.Records.{entry}
use Rattle.agent_core.specs.Agents.{shares_in, share_of}
use Rattle.agent_core.specs.Deciding.{value_in}
use Rattle.nego_world.proofs.history.values_after.Goals as goal

pub loop-a-init : goal.loop-a-init
loop-a-init c = record { long = refl; done = λ k h. absurd (omega (arith, h)) }

pub loop-a-preserved : goal.loop-a-preserved
loop-a-preserved c =
    let d = c.args.d.now in
    let before : slice_index c.split-before.result c.loop-a.a ≡ value_in d c.args.joint c.loop-a.a =
    ap (λ xs. slice_index xs c.loop-a.a) c.split-before.ensures.value ∙ (at-tuple_of c.sizes.result.now c.args.joint c.loop-a.a ∙ ap (λ s. slice_index (split s c.args.joint) c.loop-a.a) c.sizes.ensures) in
    record {
      long = length-set c.loop-a.values c.loop-a.a c.after_or.result ∙ c.loop-a.invariant.long;
      done = below_more _ _
          (λ k h. let ne : k ≢ c.loop-a.a = omega arith in get_or-set_other c.loop-a.values c.loop-a.a k c.after_or.result 0 ne ∙ c.loop-a.invariant.done k h)
          (let lt : c.loop-a.a < length c.loop-a.values = omega (arith, c.loop-a.invariant.long, c.loop-a-test.true, c.agents-a-end.ensures.value, c.agents-a-end.ensures.limits.few_agents) in
          get_or-set_same c.loop-a.values c.loop-a.a c.after_or.result 0 lt ∙ (c.after_or.ensures ∙ ap (λ v. option_map_or (λ s. s.after) (share_of c.loop-a.a (shares_in (entry c.args.r.now))) v) before));
    }

pub returns-clause-values : goal.returns-clause-values
returns-clause-values c = λ a h. c.loop-a.invariant.done a (omega (arith, h, c.loop-a-test.false, c.agents-a-end.ensures.value))
