use Rattle.std.proofs.Common.{sym, refl, subst}
use Rattle.agent_msg.specs.Messages.{ready_message}
use Rattle.agent_core.specs.Agents.{IsValid}
use Rattle.agent_core.proofs.Given.{for_agent}
use Rattle.agent_core.proofs.Valid.{valid-held}
use Rattle.agent_core.proofs.agent.Agent.give_ready.Goals as goal

pub returns-in-Kept-clause-valid : goal.returns-in-Kept-clause-valid
returns-in-Kept-clause-valid c =
    subst (λ g. IsValid c.args.d.now g) (sym c.hold.ensures.agent)
    (valid-held c.args.d.now c.args.self.now.plain (ready_message c.args.ready.now) c.requires.valid (for_agent c.args.d.now c.args.self.now.plain (ready_message c.args.ready.now) c.requires.own (c.in-Kept.ensures.kept refl)))
