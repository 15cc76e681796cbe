use Rattle.std.proofs.Common.{◌≡◌, ◌∙◌, ◌+◌, ◌∷◌, ◌++◌, ◌<◌, length, map, drop, get_or, ap, sym, arith}
use Rattle.std.specs.Vec.Iter.{into_iter_items}
use Rattle.std.proofs.lemmas.List.{length_push}
use Rattle.nego_expr.specs.Finish.{finals_of}
use Rattle.nego_expr.specs.SummaryText.{plain_final}
use Rattle.nego_expr.specs.WorkView.{plain_outcome}
use Rattle.nego_expr.proofs.Finishing.{next_final}
use Rattle.nego_expr.proofs.finish.finals_of.Goals as goal

pub loop-name-preserved : goal.loop-name-preserved
loop-name-preserved c =
    let finals = c.loop-name.finals in
    let outcomes = c.args.outcomes.now in
    let name = c.in-Some.name in
    let more = c.push.new.self in
    let left = into_iter_items c.next.new.self in
    let d = c.index-outcomes-len.result in
    let x = get_or outcomes c.len.result d in
    let next : into_iter_items c.loop-name.name-iterator ≡ name ∷ left = c.in-Some.ensures.steps.0 in
    let counted : length finals + length (name ∷ left) ≡ length outcomes = ap (λ xs. length finals + length xs) (sym next) ∙ c.loop-name.invariant.2 in
    let within : length finals < length outcomes = omega (arith, counted) in
    let count : length more + length left ≡ length outcomes = omega (arith, counted, ap length c.in_ok-push.ensures.ok, length_push finals (record { name = name; node = x.node })) in (
      tt,
      tt,
      count,
      next_final finals more name left outcomes d x within (ap (λ i. get_or outcomes i d) (sym c.len.ensures)) c.in_ok-push.ensures.ok
          ∙ ap (λ names. map plain_final finals ++ finals_of names (drop (length finals) (map plain_outcome outcomes))) (sym next) ∙ c.loop-name.invariant.3,
    )
