use Rattle.std.proofs.Common.{◌≡◌, ◌≤◌, false, length, sym, ◌∙◌, arith}
use Rattle.nego_expr.specs.Use.{Iterate, allows}
use Rattle.nego_expr.specs.WorkView.{plain_outcome}
use Rattle.nego_reduce.proofs.Guards.{dead_iteration}
use Rattle.nego_reduce.proofs.Searching.{holds_below, holds_more, holds_always, item_at, past_all}
use Rattle.nego_reduce.proofs.iterations.least_of_all.Goals as goal

pub returns-then-can_iterate-clause-some : goal.returns-then-can_iterate-clause-some
returns-then-can_iterate-clause-some g c =
    let work = c.args.w.now.plain in
    let x = plain_outcome c.x-item.result in
    let at = item_at work.outcomes c.outcomes-x-items.result.now c.loop-x.x-index c.x-item.result c.outcomes-x-items.ensures c.loop-x-test.true c.x-item.is in
    record {
      allowed = sym c.can_iterate.ensures ∙ c.if-can_iterate.true;
      least = holds_below (λ p. allows work (Iterate p) ≡ false) work c.requires.work (dead_iteration work) c.loop-x.x-index x at c.loop-x.invariant.none;
    }

pub loop-x-preserved : goal.loop-x-preserved
loop-x-preserved g c =
    let work = c.args.w.now.plain in
    let x = plain_outcome c.x-item.result in
    let at = item_at work.outcomes c.outcomes-x-items.result.now c.loop-x.x-index c.x-item.result c.outcomes-x-items.ensures c.loop-x-test.true c.x-item.is in
    let one = c.tick.ensures in
    let later = c.loop-x.invariant.later in
    let tests = c.loop-x.invariant.tests in
    record {
      none = holds_more (λ p. allows work (Iterate p) ≡ false) work c.loop-x.x-index x at c.loop-x.invariant.none (sym c.can_iterate.ensures ∙ c.if-can_iterate.false);
      later = omega (arith, one, later);
      tests = omega (arith, one, tests);
    }

pub returns-clause-none : goal.returns-clause-none
returns-clause-none g c =
    let work = c.args.w.now.plain in
    let all : length work.outcomes ≤ c.loop-x.x-index = past_all work.outcomes c.outcomes-x-items.result.now c.loop-x.x-index c.outcomes-x-items.ensures (omega (arith, c.loop-x-test.false)) in
    holds_always (λ p. allows work (Iterate p) ≡ false) work (dead_iteration work) c.loop-x.x-index all c.loop-x.invariant.none
