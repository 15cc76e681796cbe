use Rattle.std.proofs.Common.{◌≡◌, ◌∙◌, ◌-◌, ◌<◌, ◌++◌, ◌∷◌, [], List, ℕ, length, ap, sym, subst}
use Rattle.std.proofs.lemmas.List.{map-append}
use Rattle.nego_base.specs.declared.ids.AtomId.{AtomId}
use Rattle.nego_model.specs.Diagram.{negotiation_of}
use Rattle.nego_shape.specs.Answers.{numbers}
use Rattle.nego_shape.proofs.PlacedAtoms.{ArePlaced, one_placed, less_room}
use Rattle.nego_shape.proofs.placing.place_all.Goals as goal

pub loop-n-smaller : goal.loop-n-smaller
loop-n-smaller c =
    let atoms = c.loop-n.atoms in
    let P : List ℕ → Type 0 = λ xs. 64 - length xs < 64 - length atoms in
    subst P (sym c.with-atoms.ensures.value) (less_room c.in-Some.n.0 atoms c.in-Some.ensures.bound c.in-Some.ensures.some.ready.left.unplaced c.with-atoms.ensures.members)

pub loop-n-preserved : goal.loop-n-preserved
loop-n-preserved c =
    let nego = negotiation_of c.args.d.now in
    let n = c.in-Some.n in
    let pushed : numbers c.push.new.self ≡ numbers c.loop-n.order ++ n.0 ∷ [] = ap numbers c.in_ok-push.ensures.ok ∙ map-append (λ (atom : AtomId). atom.0) c.loop-n.order (n ∷ []) in
    subst (λ xs. ArePlaced nego xs c.with-atoms.result) (sym pushed)
    (subst (ArePlaced nego (numbers c.loop-n.order ++ n.0 ∷ [])) (sym c.with-atoms.ensures.value)
    (one_placed nego (numbers c.loop-n.order) c.loop-n.atoms n.0 c.in-Some.ensures.some c.loop-n.invariant))
