use Rattle.std.proofs.Common.{◌<◌, length, subst}
use Rattle.std.specs.List.{All}
use Rattle.nego_model.specs.Diagram.{PlainDiagram}
use Rattle.nego_model.proofs.diagrams.Readers.{parties_part-some, parties_part-below}
use Rattle.nego_model.proofs.diagram.Diagram.parties.Goals as goal

pub returns-clause-some : goal.returns-clause-some
returns-clause-some c = parties_part-some c.self.inside.parts c.self.invariant c.args.n.0 c.index.result.now c.index.ensures

pub returns-clause-in_range : goal.returns-clause-in_range
returns-clause-in_range c =
    subst (λ (d : PlainDiagram). All (λ a. a < length d.agents) c.index.result.now.parties) c.self.view_is
    (parties_part-below c.self.inside.parts c.self.invariant c.args.n.0 c.index.result.now c.index.ensures)
