use Rattle.std.proofs.Common.{◌∙◌, List, ℕ, length, sym, subst, ap}
use Rattle.nego_data.specs.Tables.{IsTable}
use Rattle.nego_data.proofs.PartLaws.{length-widened, widened-table}
use Rattle.nego_data.proofs.table.Table.all.Goals as goal

pub returns-clause-value : goal.returns-clause-value
returns-clause-value c = c.all.ensures.value ∙ sym (length-widened c.self.inside.parties c.self.inside.sizes c.self.inside.rows) ∙ ap length c.self.view_is

pub returns-clause-table : goal.returns-clause-table
returns-clause-table c =
    let P : List (List ℕ) → Type 0 = λ table. IsTable (length table) table in
    subst P c.self.view_is (widened-table c.self.inside.parties c.self.inside.sizes c.self.inside.rows)
