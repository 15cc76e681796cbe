use Rattle.std.proofs.Common.{length}
use Rattle.agent_msg.proofs.ShareLaws.{IsPutting}
use Rattle.agent_msg.proofs.shares.Shares.put_into.Given as goal

abbrev pub invariant-loop-a : goal.invariant-loop-a
invariant-loop-a l = IsPutting l.self l.fn.bytes l.left l.at l.bytes

abbrev pub decreases-loop-a : goal.decreases-loop-a
decreases-loop-a l = length l.left
