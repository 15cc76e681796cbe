use Rattle.nego_model.specs.Occurring.{opening_marking}
use Rattle.nego_model.specs.Expression.{Relates}
use Rattle.nego_model.proofs.occurrence.Histories.{history_leaves, own_values}
use Rattle.nego_model.proofs.laws.values_follow_from_own_entries.Goals as goal

pub returns : goal.returns
returns c = λ nego sizes meaning start history a local below h.
    let k = history_leaves nego (Relates meaning) start history h in
    own_values nego sizes (Relates meaning) local a history start (opening_marking nego) k.0 below k.1 h.related
