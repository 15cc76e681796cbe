use Rattle.std.proofs.Common.{◌≡◌, map, take}
use Rattle.nego_shape.proofs.sizing.numbers_of.Given as goal

abbrev pub invariant-loop-agent : goal.invariant-loop-agent
invariant-loop-agent l = l.sizes ≡ map (λ agent. agent.size) (take l.agent-index l.agent-items)
