use Rattle.std.proofs.Common.{sym, ◌∙◌}
use Rattle.agent_msg.proofs.PartyLaws.{decide_of-itself, decide_of-party, decide_of-stranger}
use Rattle.agent_msg.proofs.record.decide_for.Goals as goal
use Rattle.agent_msg.proofs.record.decide_for.Goals.{then-eq-via-then-eq, then-eq-via-else-eq+then-not-is_party}

pub returns-then-eq : goal.returns-then-eq
returns-then-eq c =
    rw (c.in-Decision.is)
    (elim c.then-eq.branch [
      | then-eq-via-then-eq w ↦ sym (decide_of-itself c.args.from.0 c.args.to.0 _ _ _ _ _ (sym c.eq.ensures ∙ w.if-eq.true))
      | then-eq-via-else-eq+then-not-is_party w ↦ sym (decide_of-stranger c.args.from.0 c.args.to.0 _ _ _ _ _ (sym c.eq.ensures ∙ w.if-eq.false) (sym w.is_party.ensures.value ∙ w.if-not-is_party.true))
    ])

pub returns : goal.returns
returns c =
    rw (c.in-Decision.is)
    (sym (decide_of-party c.args.from.0 c.args.to.0 _ _ _ _ _ (sym c.eq.ensures ∙ c.if-eq.false) (sym c.is_party.ensures.value ∙ c.if-not-is_party.false)))
