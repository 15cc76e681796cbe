use Rattle.nego_expr.proofs.LocalWorks.{works_local}
use Rattle.nego_expr.proofs.laws.works_are_local.Goals as goal

pub returns : goal.returns
returns c = works_local
