use Rattle.std.proofs.Common.{map, sym, ap, ◌∙◌}
use Rattle.agent_msg.specs.Records.{entry}
use Rattle.agent_core.specs.Agents.{shares_in}
use Rattle.agent_core.proofs.Decisions.{agents_of}
use Rattle.nego_world.proofs.messages.parties_in.Goals as goal

pub returns-in-Decision : goal.returns-in-Decision
returns-in-Decision c = sym (agents_of c.in-Decision.visits c.in-Decision.afters c.in-Decision.parties) ∙ ap (λ r. map (λ s. s.agent) (shares_in (entry r))) (sym c.in-Decision.is)
