use Rattle.nego_data.proofs.Words.{rows_seen, is_table_seen}
use Rattle.nego_data.proofs.rows.Rows.all.Goals as goal

pub returns-clause-value : goal.returns-clause-value
returns-clause-value c = rows_seen c.self.inside.all c.self.inside.words.items c.args.self.now c.self.view_is

pub returns-clause-table : goal.returns-clause-table
returns-clause-table c = is_table_seen c.self.inside.all c.self.inside.words.items c.args.self.now c.self.view_is
