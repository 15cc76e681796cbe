use Rattle.nego_model.specs.Expression.{Relates}
use Rattle.nego_model.proofs.occurrence.Neighbours.{neighbours_change_places, joined_change_places, entries_change_places}
use Rattle.nego_model.proofs.occurrence.Projections.{projection_keeps}
use Rattle.nego_model.proofs.laws.neighbours_apart_change_places.Goals as goal

pub returns-clause-marking : goal.returns-clause-marking
returns-clause-marking c = neighbours_change_places

pub returns-clause-joined : goal.returns-clause-joined
returns-clause-joined c = λ nego sizes meaning marking left front rest step step' d e local. joined_change_places nego sizes (Relates meaning) local marking left front rest step step' d e

pub returns-clause-entries : goal.returns-clause-entries
returns-clause-entries c = λ nego sizes meaning marking left d front rest one two local. entries_change_places nego sizes (Relates meaning) local marking left d front rest one two

pub returns-clause-projections : goal.returns-clause-projections
returns-clause-projections c = projection_keeps
