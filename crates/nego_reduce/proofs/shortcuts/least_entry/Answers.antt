use Rattle.std.proofs.Common.{◌≡◌, inl, inr, false, option_map, sym, subst, ap, ◌∙◌, arith}
use Rattle.std.proofs.lemmas.Option.{none-some, same_Some}
use Rattle.nego_expr.specs.WorkView.{plain_outcome}
use Rattle.nego_reduce.specs.Order.{takes_shortcut}
use Rattle.nego_reduce.proofs.LeastEntry.{sent_there, so_far_start, so_far_kept, so_far_lesser, found_taken, found_least, found_none, below_seen}
use Rattle.nego_reduce.proofs.shortcuts.least_entry.Goals as goal
use Rattle.nego_reduce.proofs.shortcuts.least_entry.Goals.{in-Some+then-is_below+then-takes_shortcut, in-Some+else-is_below, else-is_below-via-then-is_below+else-takes_shortcut, else-is_below-via-else-is_below, in_default}

pub loop-a-init : goal.loop-a-init
loop-a-init g c = record {
  least = so_far_start c.args.w.now.plain (plain_outcome c.args.x.now);
  later = omega arith;
  tests = omega arith;
}

pub takes_shortcut-requires-clause-left : goal.takes_shortcut-requires-clause-left
takes_shortcut-requires-clause-left g c =
    sent_there c.args.w.now.plain c.requires.work (plain_outcome c.args.x.now) c.requires.alive c.loop-a.a c.in-Some.n.0 (sym c.target.ensures.value ∙ ap (option_map (λ n. n.0)) c.in-Some.is)

pub loop-a-preserved : goal.loop-a-preserved
loop-a-preserved g c =
    let work = c.args.w.now.plain in
    let x = plain_outcome c.args.x.now in
    let so_far = c.loop-a.invariant.least in
    let later = c.loop-a.invariant.later in
    let tests = c.loop-a.invariant.tests in
    elim c.match-target.branch [
      | in-Some+then-is_below+then-takes_shortcut w ↦
          let n = w.in-Some.n.0 in
          let sent = sym c.target.ensures.value ∙ ap (option_map (λ m. m.0)) w.in-Some.is in
          let below = sym (below_seen n c.loop-a.least) ∙ (sym w.is_below.ensures ∙ w.if-is_below.true) in
          let more = w.takes_shortcut.ensures.later in
          let few = w.takes_shortcut.ensures.tests in
          rw (w.least-is, w.steps-is) (record {
            least = so_far_lesser work c.requires.work x c.requires.alive c.loop-a.a n (option_map (λ m. m.0) c.loop-a.least) sent below (sym w.takes_shortcut.ensures.value ∙ w.if-takes_shortcut.true) so_far;
            later = omega (arith, later, more);
            tests = omega (arith, tests, few);
          })
      | in-Some+else-is_below w ↦
          let n = w.in-Some.n.0 in
          let sent = sym c.target.ensures.value ∙ ap (option_map (λ m. m.0)) w.in-Some.is in
          elim w.else-is_below.branch [
            | else-is_below-via-then-is_below+else-takes_shortcut v ↦
                let more = v.takes_shortcut.ensures.later in
                let few = v.takes_shortcut.ensures.tests in
                rw (w.least-is, w.steps-is, v.steps-is) (record {
                  least = so_far_kept work c.requires.work x c.requires.alive c.loop-a.a (option_map (λ m. m.0) c.loop-a.least)
                      (λ m e. inr (subst (λ k. takes_shortcut work x.number k ≡ false) (same_Some n m (sym sent ∙ e)) (sym v.takes_shortcut.ensures.value ∙ v.if-takes_shortcut.false))) so_far;
                  later = omega (arith, later, more);
                  tests = omega (arith, tests, few);
                })
            | else-is_below-via-else-is_below v ↦
                let not_below = sym (below_seen n c.loop-a.least) ∙ (sym w.is_below.ensures ∙ v.if-is_below.false) in
                rw (w.least-is, w.steps-is, v.steps-is) (record {
                  least = so_far_kept work c.requires.work x c.requires.alive c.loop-a.a (option_map (λ m. m.0) c.loop-a.least)
                      (λ m e. inl (rw (sym (same_Some n m (sym sent ∙ e))) not_below)) so_far;
                  later = omega (arith, later);
                  tests = omega (arith, tests);
                })
          ]
      | in_default w ↦
          rw (w.least-is, w.steps-is) (record {
            least = so_far_kept work c.requires.work x c.requires.alive c.loop-a.a (option_map (λ m. m.0) c.loop-a.least) (λ m e. absurd (none-some m (w.in_default.ensures.value ∙ e))) so_far;
            later = omega (arith, later);
            tests = omega (arith, tests);
          })
    ]

pub returns-clause-taken : goal.returns-clause-taken
returns-clause-taken g c = found_taken c.args.w.now.plain c.requires.work (plain_outcome c.args.x.now) c.requires.alive c.loop-a.a c.loop-a.least c.loop-a.invariant.least

pub returns-clause-least : goal.returns-clause-least
returns-clause-least g c =
    let past = c.loop-a-test.false in
    let count = c.agents-a-end.ensures.value in
    found_least c.args.w.now.plain c.requires.work (plain_outcome c.args.x.now) c.requires.alive c.loop-a.a c.loop-a.least (omega (arith, past, count)) c.loop-a.invariant.least

pub returns-clause-none : goal.returns-clause-none
returns-clause-none g c =
    let past = c.loop-a-test.false in
    let count = c.agents-a-end.ensures.value in
    found_none c.args.w.now.plain c.requires.work (plain_outcome c.args.x.now) c.requires.alive c.loop-a.a c.loop-a.least (omega (arith, past, count)) c.loop-a.invariant.least
