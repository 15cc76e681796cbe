use Rattle.std.proofs.Common.{◌∷◌, List, ℕ, get_or, sym, ap, subst, ◌∙◌}
use Rattle.nego_base.specs.Members.{IsRisingBelow}
use Rattle.nego_base.specs.declared.op.Op.TheVariants as ops
use Rattle.nego_data.specs.declared.cases.Operand.TheVariants as operands
use Rattle.nego_data.specs.declared.cases.Test.{Test}
use Rattle.nego_data.specs.CaseForm.{operand_agents}
use Rattle.nego_shape.proofs.RuleSets.{one_more, two_more}
use Rattle.nego_shape.proofs.checks.outcomes.tested.Goals as goal
use Rattle.nego_shape.proofs.checks.outcomes.tested.Goals.{in-Value, in_default}

named : Test → List ℕ
named test = test.agent.0 ∷ operand_agents test.right

pub loop-test-preserved : goal.loop-test-preserved
unfolding named
loop-test-preserved c =
    let d : Test = record { agent = record { 0 = 0 }; op = ops.Eq; right = operands.Number 0 } in
    let test = get_or c.args.tests.now c.loop-test.test-index d in
    elim c.match-test.branch [
      | in-Value w ↦ (
        subst (IsRisingBelow 16) (sym w.set-is) w.with-set-in-Value.ensures.rising,
        two_more named c.args.tests.now c.loop-test.test-index d c.loop-test.set c.match-test.set c.loop-test-test.true c.loop-test.invariant.1 test.agent.0 w.in-Value.b.0 (ap (λ r. test.agent.0 ∷ operand_agents r) w.in-Value.is) c.with-set.result c.with-set.ensures.value (w.set-is ∙ w.with-set-in-Value.ensures.value),
      )
      | in_default w ↦ (
        subst (IsRisingBelow 16) (sym w.set-is) c.with-set.ensures.rising,
        one_more named c.args.tests.now c.loop-test.test-index d c.loop-test.set c.match-test.set c.loop-test-test.true c.loop-test.invariant.1 test.agent.0 (ap (λ r. test.agent.0 ∷ operand_agents r) w.in_default.is) (w.set-is ∙ c.with-set.ensures.value),
      )
    ]
