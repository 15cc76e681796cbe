use Rattle.std.proofs.Common.{sym, ◌∙◌}
use Rattle.agent_msg.proofs.PartyLaws.{is_in-above, is_in-empty}
use Rattle.agent_core.proofs.reading.is_member.Goals as goal
use Rattle.agent_core.proofs.reading.is_member.Goals.{then-count-eq0-via-then-count-eq0, then-count-eq0-via-else-count-eq0+then-p-ge16}

pub returns-then-count-eq0 : goal.returns-then-count-eq0
returns-then-count-eq0 c =
    elim c.then-count-eq0.branch [
      | then-count-eq0-via-then-count-eq0 w ↦ sym (is_in-empty c.args.p.0 c.args.agents (sym c.count.ensures.value ∙ w.if-count-eq0.true))
      | then-count-eq0-via-else-count-eq0+then-p-ge16 w ↦ sym (is_in-above c.args.p.0 c.args.agents c.count.ensures.members w.if-p-ge16.true)
    ]
