use Rattle.nego_data.proofs.DataSets.{below-set, below-rises}
use Rattle.nego_data.proofs.data_set.DataSet.below.Goals as goal

pub returns-clause-value : goal.returns-clause-value
returns-clause-value c =
    below-set c.args.words.now c.padded-row.result c.cut.new.row c.args.count c.requires.few c.requires.long c.padded-row.ensures.value c.cut.ensures.words c.cut.ensures.rest

pub returns-clause-rising : goal.returns-clause-rising
returns-clause-rising c =
    below-rises c.args.words.now c.cut.new.row c.args.count
    (below-set c.args.words.now c.padded-row.result c.cut.new.row c.args.count c.requires.few c.requires.long c.padded-row.ensures.value c.cut.ensures.words c.cut.ensures.rest)
