use Rattle.std.proofs.Common.{length}
use Rattle.agent_msg.proofs.ShareLaws.{IsTesting}
use Rattle.agent_msg.proofs.shares.Shares.fit.Given as goal

abbrev pub invariant-loop-a : goal.invariant-loop-a
invariant-loop-a l = IsTesting l.self l.left

abbrev pub decreases-loop-a : goal.decreases-loop-a
decreases-loop-a l = length l.left
