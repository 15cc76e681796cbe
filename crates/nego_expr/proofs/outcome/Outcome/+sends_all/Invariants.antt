use Rattle.std.proofs.Common.{length}
use Rattle.nego_expr.proofs.outcome.Outcome.+sends_all.Given as goal

abbrev pub decreases-sends_all : goal.decreases-sends_all
decreases-sends_all l = length l.agents
