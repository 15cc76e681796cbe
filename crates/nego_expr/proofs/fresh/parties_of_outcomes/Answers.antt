use Rattle.std.proofs.Common.{◌≡◌, ◌∙◌, ◌+◌, ℕ, List, map, length, ap, arith}
use Rattle.std.specs.List.{range_with_len}
use Rattle.std.specs.Option.{option_map_or}
use Rattle.nego_model.specs.Diagram.{parties_of, atom_of}
use Rattle.nego_expr.proofs.FreshSteps.{pushed, map-places}
use Rattle.nego_expr.proofs.fresh.parties_of_outcomes.Goals as goal

pub loop-o-preserved : goal.loop-o-preserved
loop-o-preserved c =
    let d = c.args.d.now in
    let o = c.loop-o.o in
    let of : ℕ → List ℕ = λ i. parties_of d (atom_of d i) in
    pushed of 0 o c.loop-o.parties c.push.new.self c.parties.result c.in_ok-push.ensures.ok c.loop-o.invariant
    (c.parties.ensures.value ∙ ap (parties_of d) c.atom_of.ensures.value ∙ ap of (let e : o ≡ 0 + o = omega arith in e))

pub returns : goal.returns
returns c =
    let d = c.args.d.now in
    let of : ℕ → List ℕ = λ i. parties_of d (atom_of d i) in
    let all : c.loop-o.o ≡ length d.outcomes = omega (arith, c.loop-o.auto, c.loop-o-test.false, c.outcomes-o-end.ensures.value) in
    c.loop-o.invariant ∙ ap (λ k. map of (range_with_len 0 k)) all
    ∙ map-places of (λ outcome. parties_of d outcome.atom) 0 d.outcomes
    (λ k x at. ap of (let e : 0 + k ≡ k = omega arith in e) ∙ ap (λ found. parties_of d (option_map_or (λ outcome. outcome.atom) found 0)) at)
