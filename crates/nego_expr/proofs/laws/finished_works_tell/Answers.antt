use Rattle.nego_expr.proofs.Finished.{finished_works}
use Rattle.nego_expr.proofs.laws.finished_works_tell.Goals as goal

pub returns : goal.returns
returns c = finished_works
