use Rattle.std.proofs.Common.{subst}
use Rattle.nego_data.specs.Data.{data_count}
use Rattle.nego_data.specs.Tables.{IsTable}
use Rattle.nego_model.specs.Diagram.{PlainDiagram}
use Rattle.nego_model.proofs.diagrams.Readers.{table_part-ok}
use Rattle.nego_model.proofs.diagram.Diagram.table.Goals as goal

pub returns-clause-rows : goal.returns-clause-rows
returns-clause-rows c =
    subst (λ (d : PlainDiagram). IsTable (data_count d.sizes) c.index.result.now.table) c.self.view_is
    (table_part-ok c.self.inside.parts c.self.invariant c.args.o.0 c.index.result.now c.index.ensures)
