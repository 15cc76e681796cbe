use Rattle.std.proofs.Common.{sym, arith}
use Rattle.agent_msg.proofs.PartyLaws.{is_in-above, is_in-empty}
use Rattle.agent_msg.proofs.record.is_party.Goals as goal
use Rattle.agent_msg.proofs.record.is_party.Goals.{then-count-eq0-via-then-count-eq0, then-count-eq0-via-else-count-eq0+then-a-ge16}

pub returns-then-count-eq0-clause-value : goal.returns-then-count-eq0-clause-value
returns-then-count-eq0-clause-value c =
    elim c.then-count-eq0.branch [
      | then-count-eq0-via-then-count-eq0 w ↦ sym (is_in-empty c.args.a.0 c.args.parties (omega (arith, w.if-count-eq0, c.count.ensures.value)))
      | then-count-eq0-via-else-count-eq0+then-a-ge16 w ↦ sym (is_in-above c.args.a.0 c.args.parties c.count.ensures.members (omega (arith, w.if-a-ge16)))
    ]
