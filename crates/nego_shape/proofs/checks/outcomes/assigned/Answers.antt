use Rattle.std.proofs.Common.{◌∷◌, List, ℕ, get_or, sym, ap, subst, ◌∙◌}
use Rattle.nego_base.specs.Members.{IsRisingBelow}
use Rattle.nego_data.specs.declared.cases.Term.TheVariants as terms
use Rattle.nego_data.specs.declared.cases.Set.{Set}
use Rattle.nego_data.specs.CaseForm.{term_agents}
use Rattle.nego_shape.proofs.RuleSets.{one_more, two_more, no_agent, one_agent}
use Rattle.nego_shape.proofs.checks.outcomes.assigned.Goals as goal
use Rattle.nego_shape.proofs.checks.outcomes.assigned.Goals.{in-Plus2, in_default}

named : Set → List ℕ
named set = set.agent.0 ∷ term_agents set.term

pub loop-set-preserved : goal.loop-set-preserved
unfolding named
loop-set-preserved c =
    let d : Set = record { agent = record { 0 = 0 }; term = terms.Any } in
    let set = get_or c.args.sets.now c.loop-set.set-index d in
    elim c.match-set.branch [
      | in_default w ↦ (
        subst (IsRisingBelow 16) (sym w.named-is) c.with-named.ensures.rising,
        one_more named c.args.sets.now c.loop-set.set-index d c.loop-set.named c.match-set.named c.loop-set-test.true c.loop-set.invariant.1 set.agent.0 (ap (λ agents. set.agent.0 ∷ agents) (no_agent set.term w.in_default.not-Plus w.in_default.not-Minus)) (w.named-is ∙ c.with-named.ensures.value),
      )
      | in-Plus2 w ↦ (
        subst (IsRisingBelow 16) (sym w.named-is) w.with-named-in-Plus.ensures.rising,
        two_more named c.args.sets.now c.loop-set.set-index d c.loop-set.named c.match-set.named c.loop-set-test.true c.loop-set.invariant.1 set.agent.0 w.in-Plus.b.0 (ap (λ agents. set.agent.0 ∷ agents) (one_agent set.term w.in-Plus.b w.in-Plus.is)) c.with-named.result c.with-named.ensures.value (w.named-is ∙ w.with-named-in-Plus.ensures.value),
      )
    ]
