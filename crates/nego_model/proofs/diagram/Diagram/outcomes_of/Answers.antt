use Rattle.std.proofs.Common.{◌+◌, ◌≤◌, length, subst}
use Rattle.nego_model.specs.Diagram.{PlainDiagram}
use Rattle.nego_model.proofs.diagrams.Readers.{some_number_part, numbers_part-below}
use Rattle.nego_model.proofs.diagram.Diagram.outcomes_of.Goals as goal

pub returns-clause-some : goal.returns-clause-some
returns-clause-some c = some_number_part c.self.inside.parts c.self.invariant c.args.n.0 c.index-atom.result.now c.index-atom.ensures

pub returns-clause-in_range : goal.returns-clause-in_range
returns-clause-in_range c =
    subst (λ (d : PlainDiagram). c.index-atom.result.now.start + c.index-atom.result.now.count ≤ length d.outcomes) c.self.view_is
    (numbers_part-below c.self.inside.parts c.self.invariant c.args.n.0 c.index-atom.result.now c.index-atom.ensures)
