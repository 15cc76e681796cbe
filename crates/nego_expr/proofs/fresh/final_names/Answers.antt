use Rattle.std.proofs.Common.{◌∙◌, ◌+◌, ◌≤◌, arith}
use Rattle.std.proofs.Math.Facts.{Fits-below}
use Rattle.nego_model.specs.Diagram.{outcome_name}
use Rattle.nego_expr.proofs.FreshSteps.{pushed}
use Rattle.nego_expr.proofs.fresh.final_names.Goals as goal

pub overflow_add-start : goal.overflow_add-start
overflow_add-start c = Fits-below tt (let small : c.outcomes_of-start.result.0 + c.loop-i.i ≤ 256 = omega (arith, c.outcomes_of-start.ensures.in_range, c.requires.few_outcomes, c.loop-i-test.true) in small)

pub loop-i-preserved : goal.loop-i-preserved
loop-i-preserved c =
    pushed (outcome_name c.args.d.now) c.outcomes_of-start.result.0 c.loop-i.i c.loop-i.names c.push.new.self c.in_ok-copy.field-0 c.in_ok-push.ensures.ok c.loop-i.invariant
    (c.in_ok-copy.ensures ∙ c.outcome_name.ensures.value)
