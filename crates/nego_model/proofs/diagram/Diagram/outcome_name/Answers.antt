use Rattle.nego_model.proofs.diagrams.Readers.{outcome_named}
use Rattle.nego_model.proofs.diagram.Diagram.outcome_name.Goals as goal

pub returns-clause-name : goal.returns-clause-name
returns-clause-name c = rw c.as_slice.ensures (outcome_named c.self.inside.parts c.self.invariant c.args.o.0 c.index.result.now c.index.ensures)
