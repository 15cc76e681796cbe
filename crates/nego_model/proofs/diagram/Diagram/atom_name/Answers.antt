use Rattle.nego_model.proofs.diagrams.Readers.{atom_named}
use Rattle.nego_model.proofs.diagram.Diagram.atom_name.Goals as goal

pub returns-clause-name : goal.returns-clause-name
returns-clause-name c = rw c.as_slice.ensures (atom_named c.self.inside.parts c.args.n.0 c.index.result.now c.self.invariant c.index.ensures)
