use Rattle.nego_model.specs.Expression.{Relates}
use Rattle.nego_model.proofs.occurrence.Joined.{Joins_through, joins_between}
use Rattle.nego_model.proofs.laws.joins_through_between.Goals as goal

pub returns : goal.returns
returns c = λ meaning front rest d e. (λ h. joins_between (Relates meaning) front rest d e h, λ h. Joins_through (Relates meaning) front rest d h.0 e h.1 h.2)
