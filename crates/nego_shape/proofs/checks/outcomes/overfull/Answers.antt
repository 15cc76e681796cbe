use Rattle.std.proofs.Common.{◌<◌, length, map, get_or, sym, subst, ◌∙◌}
use Rattle.nego_base.specs.Members.{IsRisingBelow}
use Rattle.nego_data.specs.declared.cases.Term.TheVariants as terms
use Rattle.nego_data.specs.declared.cases.Set.{Set}
use Rattle.nego_shape.specs.Rules.{over_agents}
use Rattle.nego_shape.proofs.RuleSets.{none_more, one_more, over_so, over_not, not_over}
use Rattle.nego_shape.proofs.checks.outcomes.overfull.Goals as goal
use Rattle.nego_shape.proofs.checks.outcomes.overfull.Goals.{in-Number+then-agents-set, in-Number+else-agents-set, in_default}

pub loop-set-preserved : goal.loop-set-preserved
loop-set-preserved c =
    let d : Set = record { agent = record { 0 = 0 }; term = terms.Any } in
    let sets = c.args.sets.now in
    let agents = c.args.agents.now in
    let i = c.loop-set.set-index in
    let set = get_or sets i d in
    let inside : set.agent.0 < length agents = c.requires.sets i d c.loop-set-test.true in
    elim c.match-set.branch [
      | in-Number+then-agents-set w ↦ (
        subst (IsRisingBelow 16) (sym w.over-is) w.with-over.ensures.rising,
        one_more (over_agents (map (λ agent. agent.size) agents)) sets i d c.loop-set.over c.match-set.over c.loop-set-test.true c.loop-set.invariant.1
            set.agent.0 (over_so agents set w.in-Number.n _ w.in-Number.is inside w.if-agents-set.true) (w.over-is ∙ w.with-over.ensures.value),
      )
      | in-Number+else-agents-set w ↦ (
        subst (IsRisingBelow 16) (sym w.over-is) c.loop-set.invariant.0,
        none_more (over_agents (map (λ agent. agent.size) agents)) sets i d c.loop-set.over c.match-set.over c.loop-set-test.true c.loop-set.invariant.1
            (over_not agents set w.in-Number.n _ w.in-Number.is inside w.if-agents-set.false) w.over-is,
      )
      | in_default w ↦ (
        subst (IsRisingBelow 16) (sym w.over-is) c.loop-set.invariant.0,
        none_more (over_agents (map (λ agent. agent.size) agents)) sets i d c.loop-set.over c.match-set.over c.loop-set-test.true c.loop-set.invariant.1 (not_over agents set w.in_default.not-Number) w.over-is,
      )
    ]
