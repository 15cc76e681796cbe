use Rattle.std.proofs.Common.{rules, ◌≡◌, ◌<◌, Ok, Option, Bor, length, option_map, slice_get, sym, subst, ap, ◌∙◌, arith}
use Rattle.std.proofs.lemmas.List.{length-map}
use Rattle.std.proofs.lemmas.List.Sorted.{answers_always}
use Rattle.std.proofs.lemmas.Option.{slice_get-map}
use Rattle.nego_base.specs.Members.{IsRising}
use Rattle.nego_expr.specs.declared.outcome.Outcome.{Outcome}
use Rattle.nego_expr.specs.Work.{outcome_among, outcome_at}
use Rattle.nego_expr.specs.WorkView.{plain_outcome}
use Rattle.nego_expr.proofs.Places.{searched}
use Rattle.nego_expr.proofs.WorkEdits.{numbers_of}
use Rattle.nego_reduce.specs.Changed.{MayOffer, OthersAreDone}
use Rattle.nego_reduce.proofs.Searching.{lower_than_found}
use Rattle.nego_reduce.proofs.shortcuts.first_tried.Goals as goal

pub returns-in-Ok-clause-skipped : goal.returns-in-Ok-clause-skipped
returns-in-Ok-clause-skipped c =
    let work = c.args.w.now.plain in
    let items = c.outcomes.result.now in
    let o = c.in-Some.y.now.number.0 in
    let i = c.in-Ok.i in
    let rise = subst (λ zs. IsRising (numbers_of zs)) (sym c.outcomes.ensures) c.requires.work.numbers_rise in
    let facts = c.in-Ok.ensures in
    let by_number = facts.position (λ x. x.number.0) (answers_always _ _ _ (λ f a r g called. search rules)) in
    let found = (searched plain_outcome items rise o (Ok i) facts.bound by_number).0 in
    let bound : i < length items = facts.bound in
    let within : i < length work.outcomes = omega (arith, ap length c.outcomes.ensures, length-map items plain_outcome, bound) in
    let at : slice_get work.outcomes i ≡ outcome_at work o =
    ap (λ zs. slice_get zs i) (sym c.outcomes.ensures) ∙ (slice_get-map plain_outcome items i ∙ (found ∙ ap (λ zs. outcome_among zs o) c.outcomes.ensures)) in
    let known : OthersAreDone work o = subst (λ (r : Option (Bor Outcome)). MayOffer work (option_map (λ y. y.now.number.0) r)) c.in-Some.is c.requires.known in
    λ j z l e m. known.shortcuts z.number m (lower_than_found work.outcomes c.requires.work.numbers_rise o i within at j z l e)
