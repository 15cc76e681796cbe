use Rattle.std.proofs.Common.{◌∙◌, ◌<◌, ℕ, Option, Some, length, slice_get, slice_set, ap, sym, arith}
use Rattle.nego_model.specs.Diagram.{nexts_of}
use Rattle.nego_expr.proofs.FreshSteps.{length-sent_so_far, sent_more, sent_nowhere}
use Rattle.nego_expr.proofs.fresh.targets_after.Goals as goal
use Rattle.nego_expr.proofs.fresh.targets_after.Goals.{in-Some, in_default}

pub set-requires-clause-agent : goal.set-requires-clause-agent
set-requires-clause-agent c =
    let d = c.args.d.now in
    let count = length d.agents in
    let next : ℕ → Option ℕ = λ a. slice_get (nexts_of d c.args.o.0 a) 0 in
    omega (arith, ap length c.loop-a.invariant, length-sent_so_far next count c.loop-a.a (omega (arith, c.loop-a-test.true, c.agents-a-end.ensures.value)), c.loop-a-test.true, c.agents-a-end.ensures.value)

pub loop-a-preserved : goal.loop-a-preserved
loop-a-preserved c =
    let d = c.args.d.now in
    let a = c.loop-a.a in
    let count = length d.agents in
    let next : ℕ → Option ℕ = λ b. slice_get (nexts_of d c.args.o.0 b) 0 in
    let within : a < count = omega (arith, c.loop-a-test.true, c.agents-a-end.ensures.value) in
    elim c.match-least.branch [
      | in-Some w ↦
          w.targets-is ∙ w.set.ensures ∙ ap (λ targets. slice_set targets a (Some w.in-Some.n.0)) c.loop-a.invariant
          ∙ sent_more next count a (Some w.in-Some.n.0) within (ap (λ xs. slice_get xs 0) (sym c.nexts.ensures.value) ∙ w.in-Some.ensures.value)
      | in_default w ↦
          w.targets-is ∙ c.loop-a.invariant
          ∙ sent_nowhere next count a within (ap (λ xs. slice_get xs 0) (sym c.nexts.ensures.value ∙ w.in_default.ensures.value))
    ]
