use Rattle.std.proofs.Common.{◌||◌, ◌==◌, ap, ◌∙◌}
use Rattle.nego_base.specs.Members.{is_in}
use Rattle.nego_data.proofs.DataSets.{insert-set, set-rises_below}
use Rattle.nego_data.proofs.data_set.DataSet.insert.Goals as goal

pub returns-clause-value : goal.returns-clause-value
returns-clause-value c = λ f. insert-set c.self.inside.words c.set_bit.new.row c.args.e c.requires c.set_bit.ensures f ∙ ap (λ xs. c.args.e == f || is_in f xs) c.self.view_is

pub returns-clause-rising : goal.returns-clause-rising
returns-clause-rising c = set-rises_below _
