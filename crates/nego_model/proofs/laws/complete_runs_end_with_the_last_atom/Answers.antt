use Rattle.nego_model.proofs.occurrence.CompleteRuns.{ends_with_the_last_atom}
use Rattle.nego_model.proofs.laws.complete_runs_end_with_the_last_atom.Goals as goal

pub returns : goal.returns
returns c = ends_with_the_last_atom
