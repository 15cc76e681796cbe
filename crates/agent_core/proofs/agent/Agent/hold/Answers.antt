use Rattle.std.proofs.Common.{Some, ap}
use Rattle.std.specs.Option.{option_map}
use Rattle.std.proofs.lemmas.List.{map-set}
use Rattle.agent_msg.specs.Messages.{ready_message}
use Rattle.agent_core.specs.Views.{roomy_agent}
use Rattle.agent_core.proofs.agent.Agent.hold.Goals as goal

pub returns-then-from-lt16-clause-agent : goal.returns-then-from-lt16-clause-agent
returns-then-from-lt16-clause-agent c =
    rw (← c.self.view_is) (ap (λ held. record (roomy_agent c.self.inside).plain { held = held }) (map-set (option_map ready_message) c.self.inside.held c.args.ready.from.0 (Some c.args.ready)))
