use Rattle.std.proofs.Common.{◌<◌, length, sym, subst, ap, ◌∙◌, arith}
use Rattle.nego_base.specs.Members.{is_in}
use Rattle.nego_data.specs.Tables.{IsTable, is_related}
use Rattle.nego_data.proofs.Tables.{row-on_data}
use Rattle.nego_eval.proofs.Lent.{table_at, tables-length}
use Rattle.nego_eval.proofs.rows.Rows.base.Goals as goal

pub index-requires : goal.index-requires
index-requires c = let long = tables-length c.args.self.now.diagram.now c.args.self.now.tables c.requires.rows.tables in omega (arith, long, c.requires.outcome)

pub row-requires : goal.row-requires
row-requires c =
    let same = table_at c.args.self.now.diagram.now c.args.self.now.tables c.args.o.0 c.index.result.now c.requires.rows.tables c.requires.outcome c.index.ensures ∙ sym c.table-table.ensures.value in
    subst (λ n. c.args.start < n) (c.requires.rows.joint ∙ sym c.table-table.ensures.rows.rows ∙ ap length (sym same)) c.requires.start

pub returns-clause-exact : goal.returns-clause-exact
returns-clause-exact c = λ e.
    let same = table_at c.args.self.now.diagram.now c.args.self.now.tables c.args.o.0 c.index.result.now c.requires.rows.tables c.requires.outcome c.index.ensures ∙ sym c.table-table.ensures.value in
    ap (is_in e) c.row.ensures ∙ ap (λ table. is_related table c.args.start e) same ∙ sym (c.table-table.ensures.relation c.args.start e)

pub returns-clause-below : goal.returns-clause-below
returns-clause-below c = λ e m.
    let same = table_at c.args.self.now.diagram.now c.args.self.now.tables c.args.o.0 c.index.result.now c.requires.rows.tables c.requires.outcome c.index.ensures ∙ sym c.table-table.ensures.value in
    let table = c.table-table.result.now in
    let ok = subst (λ n. IsTable n table) (sym c.requires.rows.joint) c.table-table.ensures.rows in
    row-on_data c.args.self.now.joint table c.args.start e ok c.requires.start (sym (ap (is_in e) c.row.ensures ∙ ap (λ table. is_related table c.args.start e) same) ∙ m)
