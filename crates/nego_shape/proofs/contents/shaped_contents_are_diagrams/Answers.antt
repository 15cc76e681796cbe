use Rattle.nego_shape.proofs.ShapedDiagrams.{shaped-diagram, shaped-limits, shaped-names, shaped-order}
use Rattle.nego_shape.proofs.contents.shaped_contents_are_diagrams.Goals as goal

pub returns-clause-diagram : goal.returns-clause-diagram
returns-clause-diagram c = shaped-diagram

pub returns-clause-limits : goal.returns-clause-limits
returns-clause-limits c = shaped-limits

pub returns-clause-names : goal.returns-clause-names
returns-clause-names c = shaped-names

pub returns-clause-order : goal.returns-clause-order
returns-clause-order c = shaped-order
