use Rattle.nego_model.specs.Expression.{Relates}
use Rattle.nego_model.proofs.occurrence.Neighbours.{two_leave_the_same, two_join_the_same}
use Rattle.nego_model.proofs.laws.steps_apart_commute.Goals as goal

pub returns-clause-marking : goal.returns-clause-marking
returns-clause-marking c = two_leave_the_same

pub returns-clause-joined : goal.returns-clause-joined
returns-clause-joined c = λ nego sizes meaning marking one two step step' d e local apart h k below. (
  two_join_the_same nego sizes (Relates meaning) local marking one two step step' d e apart h k below,
  two_join_the_same nego sizes (Relates meaning) local marking two one step' step d e (λ a x y. apart a y x) k h below,
)
