use Rattle.std.proofs.Common.{length}
use Rattle.nego_expr.proofs.outcome.Outcome.+sends_alike.Given as goal

abbrev pub decreases-sends_alike : goal.decreases-sends_alike
decreases-sends_alike l = length l.agents
