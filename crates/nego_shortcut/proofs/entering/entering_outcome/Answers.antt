use Rattle.std.proofs.Common.{sym}
use Rattle.nego_expr.specs.WorkView.{plain_outcome}
use Rattle.nego_expr.proofs.EditCalls.{found_itself}
use Rattle.nego_shortcut.proofs.entering.entering_outcome.Goals as goal

pub enters-requires-clause-alive : goal.enters-requires-clause-alive
enters-requires-clause-alive c = found_itself c.args.w.now.plain c.args.o.0 (plain_outcome c.in_ok-x.x.now) (sym c.in_ok-x.ensures)
