use Rattle.nego_data.proofs.DataSets.{besides-set}
use Rattle.nego_data.proofs.data_set.DataSet.least_besides.Goals as goal

pub returns : goal.returns
returns c = rw (← c.self.view_is, ← c.other.view_is) (besides-set c.self.inside.words c.other.inside.words c.args.from c.first_besides.result c.first_besides.ensures)
