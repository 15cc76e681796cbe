use Rattle.std.proofs.Common.{◌≡◌, ◌≤◌, ℕ, false, length, ap, arith}
use Rattle.std.proofs.lemmas.List.{length-map}
use Rattle.nego_expr.specs.WorkView.{plain_outcome}
use Rattle.nego_expr.proofs.Places.{found-place}
use Rattle.nego_reduce.specs.Order.{takes_shortcut}
use Rattle.nego_reduce.proofs.Guards.{dead_shortcut}
use Rattle.nego_reduce.proofs.LeastEntry.{least_pair_from}
use Rattle.nego_reduce.proofs.Searching.{holds_below, holds_more, holds_always, item_at, past_all}
use Rattle.nego_reduce.proofs.shortcuts.least_shortcut.Goals as goal

pub least_entry-requires-clause-alive : goal.least_entry-requires-clause-alive
least_entry-requires-clause-alive g c =
    let work = c.args.w.now.plain in
    let at = item_at work.outcomes c.outcomes-outcomes.result.now c.loop-i.i c.index-outcomes-i.result c.outcomes-outcomes.ensures c.loop-i-test.true c.index-outcomes-i.is in
    found-place work.outcomes c.loop-i.i (plain_outcome c.index-outcomes-i.result) c.requires.work.numbers_rise at

pub returns-in-Some-clause-some : goal.returns-in-Some-clause-some
returns-in-Some-clause-some g c =
    let work = c.args.w.now.plain in
    let x = plain_outcome c.index-outcomes-i.result in
    let at = item_at work.outcomes c.outcomes-outcomes.result.now c.loop-i.i c.index-outcomes-i.result c.outcomes-outcomes.ensures c.loop-i-test.true c.index-outcomes-i.is in
    least_pair_from work x.number c.in-Some.n.0 c.in-Some.ensures.taken
    (holds_below (λ p. (m : ℕ) → takes_shortcut work p m ≡ false) work c.requires.work (dead_shortcut work) c.loop-i.i x at c.loop-i.invariant.none)
    c.in-Some.ensures.least

pub loop-i-preserved : goal.loop-i-preserved
loop-i-preserved g c =
    let work = c.args.w.now.plain in
    let at = item_at work.outcomes c.outcomes-outcomes.result.now c.loop-i.i c.index-outcomes-i.result c.outcomes-outcomes.ensures c.loop-i-test.true c.index-outcomes-i.is in
    let later = c.loop-i.invariant.later in
    let tests = c.loop-i.invariant.tests in
    let more = c.in_default.ensures.later in
    let few = c.in_default.ensures.tests in
    record {
      none = holds_more (λ p. (m : ℕ) → takes_shortcut work p m ≡ false) work c.loop-i.i (plain_outcome c.index-outcomes-i.result) at c.loop-i.invariant.none c.in_default.ensures.none;
      within = omega (arith, c.loop-i-test.true, ap length c.outcomes-outcomes.ensures, length-map c.outcomes-outcomes.result.now plain_outcome);
      later = omega (arith, later, more);
      tests = omega (arith, tests, few);
    }

pub returns-clause-none : goal.returns-clause-none
returns-clause-none g c =
    let work = c.args.w.now.plain in
    let all : length work.outcomes ≤ c.loop-i.i = past_all work.outcomes c.outcomes-outcomes.result.now c.loop-i.i c.outcomes-outcomes.ensures (omega (arith, c.loop-i-test.false)) in
    holds_always (λ p. (m : ℕ) → takes_shortcut work p m ≡ false) work (dead_shortcut work) c.loop-i.i all c.loop-i.invariant.none
