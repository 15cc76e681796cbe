use Rattle.std.proofs.Common.{◌≡◌, ◌∙◌, ◌-◌, ◌<◌, ◌++◌, ◌∷◌, [], List, ℕ, length, ap, sym, subst, false, arith}
use Rattle.std.proofs.lemmas.List.{map-append}
use Rattle.nego_base.specs.declared.ids.AtomId.{AtomId}
use Rattle.nego_base.specs.Members.{is_in}
use Rattle.nego_model.specs.Negotiation.{Negotiation}
use Rattle.nego_model.specs.Diagram.{negotiation_of}
use Rattle.nego_shape.specs.Answers.{numbers}
use Rattle.nego_shape.specs.Walks.{IsWalk}
use Rattle.nego_shape.proofs.PlacedAtoms.{less_room, same_with}
use Rattle.nego_shape.proofs.Walking.{walk_begins, walk_more}
use Rattle.nego_shape.proofs.cycles.walk_back.Goals as goal

pub loop-placed-init : goal.loop-placed-init
loop-placed-init c = record {
  walk = subst (λ (xs : List AtomId). IsWalk (negotiation_of c.args.d.now) c.args.placed (numbers xs) c.args.start.0) (sym c.new-atoms.ensures) (walk_begins (negotiation_of c.args.d.now) c.args.placed c.args.start.0 c.requires.least);
  same = λ n. ap (is_in n) c.none-seen.ensures.value ∙ ap (λ (xs : List AtomId). is_in n (numbers xs)) (sym c.new-atoms.ensures);
  bound = c.requires.bound;
}

pub loop-placed-smaller : goal.loop-placed-smaller
loop-placed-smaller c =
    let seen = c.loop-placed.seen in
    let P : List ℕ → Type 0 = λ xs. 64 - length xs < 64 - length seen in
    let fresh : is_in c.loop-placed.here.0 seen ≡ false = grind (arith, c.has.ensures.value, c.loop-placed-test.true) in
    subst P (sym c.with-seen.ensures.value) (less_room c.loop-placed.here.0 seen c.loop-placed.invariant.bound fresh c.with-seen.ensures.members)

pub loop-placed-preserved : goal.loop-placed-preserved
loop-placed-preserved c = record {
  walk = subst (λ xs. IsWalk nego c.args.placed xs next) (sym pushed)
      (walk_more nego c.args.placed walk here next (sym (c.loop-placed.invariant.same here) ∙ fresh) c.go_back-here.ensures.behind c.loop-placed.invariant.walk);
  same = λ n. ap (is_in n) c.with-seen.ensures.value ∙ (same_with walk c.loop-placed.seen here c.loop-placed.invariant.same n ∙ ap (is_in n) (sym pushed));
  bound = c.go_back-here.ensures.bound;
}
  where
    nego : Negotiation
    nego = negotiation_of c.args.d.now

    here : ℕ
    here = c.loop-placed.here.0

    next : ℕ
    next = c.go_back-here.result.0

    walk : List ℕ
    walk = numbers c.loop-placed.atoms

    fresh : is_in here c.loop-placed.seen ≡ false
    fresh = grind (arith, c.has.ensures.value, c.loop-placed-test.true)

    pushed : numbers c.push.new.self ≡ walk ++ here ∷ []
    pushed = ap numbers c.in_ok-push.ensures.ok ∙ map-append (λ (atom : AtomId). atom.0) c.loop-placed.atoms (c.loop-placed.here ∷ [])
