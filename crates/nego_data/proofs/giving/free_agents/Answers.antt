use Rattle.std.proofs.Common.{◌≡◌, ◌+◌, ◌∙◌, ℕ, List, take, sym, subst}
use Rattle.nego_base.specs.Members.{is_in}
use Rattle.nego_data.specs.Cases.{term_for}
use Rattle.nego_data.specs.Given.{is_free}
use Rattle.nego_data.proofs.Assigned.{of_sets, of_sets-once, next_free_with, next_free_kept}
use Rattle.nego_data.proofs.giving.free_agents.Goals as goal
use Rattle.nego_data.proofs.giving.free_agents.Goals.{then-is_any, else-is_any}

pub loop-set-preserved : goal.loop-set-preserved
loop-set-preserved c =
    let items = c.deref-set-items.result.now in
    let once = of_sets-once items c.args.case.now c.deref-set-items.ensures c.requires.once in
    let i = c.loop-set.set-index in
    let P : List ℕ → Type 0 = λ free. (a : ℕ) → is_in a free ≡ is_free (term_for (take (i + 1) items) a) in
    elim c.if-is_any.branch [
      | then-is_any w ↦
          subst P (sym (w.free-is ∙ w.with-free.ensures.value))
          (next_free_with (of_sets items) i _ once c.loop-set-test.true c.loop-set.free c.loop-set.invariant (sym c.is_any.ensures ∙ w.if-is_any.true))
      | else-is_any w ↦
          subst P (sym w.free-is)
          (next_free_kept (of_sets items) i _ once c.loop-set-test.true c.loop-set.free c.loop-set.invariant (sym c.is_any.ensures ∙ w.if-is_any.false))
    ]
