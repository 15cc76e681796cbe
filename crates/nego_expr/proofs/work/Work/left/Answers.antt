use Rattle.std.proofs.Common.{sym}
use Rattle.nego_expr.proofs.UsableWorks.{numbers-atoms}
use Rattle.nego_expr.proofs.work.Work.left.Goals as goal

pub returns : goal.returns
returns c = rw (← c.self.view_is) (sym (numbers-atoms c.self.inside.parties c.self.inside.left))
