use Rattle.std.proofs.Common.{subst}
use Rattle.nego_model.specs.Negotiation.{IsOutcome}
use Rattle.nego_model.specs.Diagram.{negotiation_of}
use Rattle.nego_model.proofs.diagrams.Negotiations.{atom-below}
use Rattle.nego_model.proofs.diagrams.Readers.{outcome_part-own}
use Rattle.nego_model.proofs.diagram.Diagram.atom_of.Goals as goal

pub returns-clause-outcome : goal.returns-clause-outcome
returns-clause-outcome c =
    subst (λ d. IsOutcome (negotiation_of d) c.index.result.now.atom.0 c.args.o.0) c.self.view_is
    (outcome_part-own c.self.inside.parts c.self.invariant c.args.o.0 c.index.result.now c.index.ensures)

pub returns-clause-in_range : goal.returns-clause-in_range
returns-clause-in_range c = atom-below c.args.self.now c.index.result.now.atom.0 (returns-clause-outcome c).0
