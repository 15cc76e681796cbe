use Rattle.std.proofs.Common.{◌-◌, length}
use Rattle.nego_model.specs.Diagram.{negotiation_of}
use Rattle.nego_shape.specs.Answers.{numbers}
use Rattle.nego_shape.proofs.PlacedAtoms.{ArePlaced}
use Rattle.nego_shape.proofs.placing.place_all.Given as goal

abbrev pub invariant-loop-n : goal.invariant-loop-n
invariant-loop-n l = ArePlaced (negotiation_of l.d) (numbers l.order) l.atoms

abbrev pub decreases-loop-n : goal.decreases-loop-n
decreases-loop-n l = 64 - length l.atoms
