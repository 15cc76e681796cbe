use Rattle.std.proofs.Common.{sym, ◌∙◌}
use Rattle.nego_model.specs.Diagram.{negotiation_of}
use Rattle.nego_model.specs.Followed.{marking_in}
use Rattle.nego_model.proofs.occurrence.Markings.{enables-atom}
use Rattle.nego_model.proofs.diagrams.Negotiations.{atom-below}
use Rattle.nego_model.proofs.marking.Marking.fire.Goals as goal

pub is_own-requires : goal.is_own-requires
is_own-requires c =
    atom-below c.args.d.now c.args.n.0 (enables-atom (negotiation_of c.args.d.now) (marking_in c.args.d.now c.args.self.now) c.args.n.0 (sym c.enabled.ensures ∙ c.if-not-enabled.false))

pub move_parties-requires-clause-atom : goal.move_parties-requires-clause-atom
move_parties-requires-clause-atom c =
    atom-below c.args.d.now c.args.n.0 (enables-atom (negotiation_of c.args.d.now) (marking_in c.args.d.now c.args.self.now) c.args.n.0 (sym c.enabled.ensures ∙ c.if-not-enabled.false))
