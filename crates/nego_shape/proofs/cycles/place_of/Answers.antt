use Rattle.std.proofs.Common.{◌∙◌, sym, below_more, arith}
use Rattle.std.proofs.lemmas.List.{get_or-map, length-map}
use Rattle.nego_base.specs.declared.ids.AtomId.{AtomId}
use Rattle.nego_shape.specs.Answers.{numbers}
use Rattle.nego_shape.proofs.ListPlaces.{place_in}
use Rattle.nego_shape.proofs.cycles.place_of.Goals as goal

pub loop-i-preserved : goal.loop-i-preserved
loop-i-preserved c =
    below_more _ _ c.loop-i.invariant (λ e. c.if-m-n.false (sym (get_or-map (λ (atom : AtomId). atom.0) c.args.atoms.now c.loop-i.i (record { 0 = 0 }) 0 c.loop-i-test.true) ∙ e))

pub unreachable-requires : goal.unreachable-requires
unreachable-requires c =
    let p = place_in c.args.n.0 (numbers c.args.atoms.now) c.requires in
    let size = length-map c.args.atoms.now (λ (atom : AtomId). atom.0) in
    let below = p.1 in
    c.loop-i.invariant p.0 (omega (arith, below, size, c.loop-i-test.false)) p.2
