use Rattle.std.proofs.Common.{sym, ◌∙◌}
use Rattle.agent_msg.specs.Messages.{decide_message}
use Rattle.agent_core.proofs.Given.{awaited_step}
use Rattle.agent_core.proofs.agent.Agent.give_decide.Goals as goal

pub record-requires-clause-step : goal.record-requires-clause-step
record-requires-clause-step c =
    awaited_step c.args.d.now c.args.self.now.plain (decide_message c.args.decide.now) c.requires.valid (sym c.is_awaited.ensures ∙ c.if-not-is_awaited.false)
