use Rattle.std.proofs.Common.{◌≢◌, ◌<◌, length, refl, ◌∙◌, arith, below_more, get_or-set_other, get_or-set_same}
use Rattle.std.proofs.lemmas.List.{length-set}
use Rattle.agent_core.proofs.agent.Agent.known_values.Goals as goal

pub loop-p-init : goal.loop-p-init
loop-p-init c = record { long = refl; done = λ k h. absurd (omega (arith, h)) }

pub loop-p-preserved : goal.loop-p-preserved
loop-p-preserved c = record {
  long = length-set c.loop-p.values c.loop-p.p c.known_value.result ∙ c.loop-p.invariant.long;
  done = below_more _ _
      (λ k h. let ne : k ≢ c.loop-p.p = omega arith in get_or-set_other c.loop-p.values c.loop-p.p k c.known_value.result 0 ne ∙ c.loop-p.invariant.done k h)
      (let lt : c.loop-p.p < length c.loop-p.values = omega (arith, c.loop-p.invariant.long, c.loop-p-test.true, c.agents-p-end.ensures.value, c.agents-p-end.ensures.limits.few_agents) in get_or-set_same c.loop-p.values c.loop-p.p c.known_value.result 0 lt ∙ c.known_value.ensures);
}

pub returns-clause-values : goal.returns-clause-values
returns-clause-values c = λ p h. c.loop-p.invariant.done p (omega (arith, h, c.loop-p-test.false, c.agents-p-end.ensures.value))
