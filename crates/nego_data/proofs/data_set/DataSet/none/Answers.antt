use Rattle.nego_data.proofs.DataSets.{none-set, set-rises_below}
use Rattle.nego_data.proofs.data_set.DataSet.none.Goals as goal

pub returns-clause-value : goal.returns-clause-value
returns-clause-value c = none-set

pub returns-clause-rising : goal.returns-clause-rising
returns-clause-rising c = set-rises_below _
