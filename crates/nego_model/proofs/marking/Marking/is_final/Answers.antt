use Rattle.std.proofs.Common.{refl, arith}
use Rattle.nego_model.proofs.occurrence.MarkingArrays.{final_kept}
use Rattle.nego_model.proofs.marking.Marking.is_final.Goals as goal

pub returns : goal.returns
returns c =
    let few = c.agents-a-end.ensures.limits.few_agents in
    (λ _. final_kept c.args.d.now c.args.self.now (omega (arith, few)) (λ a below. c.loop-a.invariant a (omega (arith, below, c.agents-a-end.ensures.value, c.loop-a-test.false))), λ _. refl)
