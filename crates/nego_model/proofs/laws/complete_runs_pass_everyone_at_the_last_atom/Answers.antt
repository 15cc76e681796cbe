use Rattle.nego_model.specs.Expression.{Relates}
use Rattle.nego_model.proofs.occurrence.Ways.{runs_pass_all_at_last, Runs-from_all_at_last}
use Rattle.nego_model.proofs.laws.complete_runs_pass_everyone_at_the_last_atom.Goals as goal

pub returns : goal.returns
returns c = λ nego meaning f d e ok one. (runs_pass_all_at_last nego (Relates meaning) f d e ok one, Runs-from_all_at_last nego (Relates meaning) f d e ok)
