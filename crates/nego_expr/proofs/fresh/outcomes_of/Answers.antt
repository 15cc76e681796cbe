use Rattle.std.proofs.Common.{◌≡◌, ◌∙◌, ◌∷◌, [], ◌+◌, map, length, slice_get, ap, arith}
use Rattle.std.specs.List.{range_with_len}
use Rattle.std.proofs.lemmas.List.{map-append}
use Rattle.nego_expr.specs.Fresh.{fresh_at}
use Rattle.nego_expr.specs.WorkView.{plain_outcome}
use Rattle.nego_expr.proofs.FreshSteps.{pushed, fresh-from}
use Rattle.nego_expr.proofs.fresh.outcomes_of.Goals as goal

pub loop-o-preserved : goal.loop-o-preserved
loop-o-preserved c =
    let d = c.args.d.now in
    let o = c.loop-o.o in
    let old = c.loop-o.outcomes.items in
    let one = c.fresh_outcome.result in (
      pushed (fresh_at d) 0 o (map plain_outcome old) (map plain_outcome c.push.new.self.items) (plain_outcome one) (ap (map plain_outcome) c.push.ensures.items ∙ map-append plain_outcome old (one ∷ [])) c.loop-o.invariant.0
          (c.fresh_outcome.ensures ∙ ap (fresh_at d) (let e : o ≡ 0 + o = omega arith in e)),
      omega (arith, c.push.ensures.room, c.loop-o.invariant.1, c.loop-o-test.true, c.outcomes-o-end.ensures.value),
    )

pub returns : goal.returns
returns c =
    let d = c.args.d.now in
    let all : c.loop-o.o ≡ length d.outcomes = omega (arith, c.loop-o.auto, c.loop-o-test.false, c.outcomes-o-end.ensures.value) in
    c.loop-o.invariant.0 ∙ ap (λ k. map (fresh_at d) (range_with_len 0 k)) all
    ∙ fresh-from d 0 d.outcomes (λ k x at. ap (slice_get d.outcomes) (let e : 0 + k ≡ k = omega arith in e) ∙ at)
