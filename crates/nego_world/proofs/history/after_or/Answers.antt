use Rattle.std.proofs.Common.{ap, sym, ◌∙◌}
use Rattle.std.specs.Option.{option_map_or}
use Rattle.agent_core.proofs.Shares.{share_of-party, share_of-other}
use Rattle.nego_world.proofs.history.after_or.Goals as goal

pub returns-in-Decision : goal.returns-in-Decision
returns-in-Decision c =
    rw (c.in-Decision.is)
    (sym (ap (λ o. option_map_or (λ s. s.after) o c.args.other) (share_of-party c.in-Decision.visits c.in-Decision.afters c.args.a.0 c.in-Decision.parties (sym c.has.ensures.value ∙ c.if-has.true))))

pub returns-in_default : goal.returns-in_default
returns-in_default c =
    rw (c.in-Decision.is)
    (sym (ap (λ o. option_map_or (λ s. s.after) o c.args.other) (share_of-other c.in-Decision.visits c.in-Decision.afters c.args.a.0 c.in-Decision.parties (sym c.has.ensures.value ∙ c.if-has.false))))
