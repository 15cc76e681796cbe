use Rattle.std.proofs.Common.{length}
use Rattle.agent_msg.proofs.ShareLaws.{IsReading}
use Rattle.agent_msg.proofs.shares.read_shares.Given as goal

abbrev pub invariant-loop-rest : goal.invariant-loop-rest
invariant-loop-rest l = IsReading l.fn.bytes l.shares l.rest

abbrev pub decreases-loop-rest : goal.decreases-loop-rest
decreases-loop-rest l = length l.rest
