use Rattle.nego_data.proofs.DataSets.{united-set, set-rises_below}
use Rattle.nego_data.proofs.data_set.DataSet.add.Goals as goal

pub returns-clause-value : goal.returns-clause-value
returns-clause-value c = λ e. rw (← c.self.view_is, ← c.other.view_is) (united-set c.self.inside.words c.other.inside.words _ c.unite.ensures e)

pub returns-clause-rising : goal.returns-clause-rising
returns-clause-rising c = set-rises_below _
