use Rattle.std.proofs.Common.{◌≡◌, ◌<◌, false, ltb, length, sym, subst, ◌∙◌}
use Rattle.std.proofs.lemmas.Bool.Decides.{nat_tests}
use Rattle.std.proofs.Common.{arith}
use Rattle.nego_model.specs.Followed.{marking_in}
use Rattle.nego_model.proofs.occurrence.MarkingArrays.{enables-kept, enables-past}
use Rattle.nego_model.proofs.marking.Marking.enabled.Goals as goal

pub returns-then-n-atoms : goal.returns-then-n-atoms
returns-then-n-atoms c =
    let below : c.args.n.0 < length c.args.d.now.atoms = subst (λ k. c.args.n.0 < k) c.atoms.ensures.value c.if-n-atoms.true in
    c.are_ready.ensures ∙ sym (enables-kept c.args.d.now (marking_in c.args.d.now c.args.self.now) c.args.n.0 below)

pub returns-else-n-atoms : goal.returns-else-n-atoms
returns-else-n-atoms c =
    let past : ltb c.args.n.0 c.atoms.result ≡ false = grind (arith, nat_tests) in
    past
    ∙ sym (enables-past c.args.d.now (marking_in c.args.d.now c.args.self.now) c.args.n.0 (subst (λ k. ltb c.args.n.0 k ≡ false) c.atoms.ensures.value past))
