use Rattle.nego_model.proofs.occurrence.Projections.{ready-run, same_seen, own_entries-steps}
use Rattle.nego_model.proofs.laws.readiness_follows_from_the_projection.Goals as goal

pub returns-clause-ready : goal.returns-clause-ready
returns-clause-ready c = ready-run

pub returns-clause-marking : goal.returns-clause-marking
returns-clause-marking c = same_seen

pub returns-clause-entries : goal.returns-clause-entries
returns-clause-entries c = own_entries-steps
