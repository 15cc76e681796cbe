use Rattle.std.proofs.Common.{sym}
use Rattle.nego_expr.specs.WorkView.{plain_outcome}
use Rattle.nego_expr.proofs.EditCalls.{found_itself}
use Rattle.nego_merge.proofs.merging.merging_pair.Goals as goal

pub merges-requires-clause-alive : goal.merges-requires-clause-alive
merges-requires-clause-alive c = found_itself c.args.w.now.plain c.args.o1.0 (plain_outcome c.in_ok-x.x.now) (sym c.in_ok-x.ensures)
