use Rattle.std.proofs.Common.{◌≡◌, map, take}
use Rattle.nego_shape.proofs.numbering.agent_numbers.Given as goal

abbrev pub invariant-loop-agent : goal.invariant-loop-agent
invariant-loop-agent l = l.names.keys ≡ map (λ agent. agent.name.text) (take l.agent-index l.agents)
