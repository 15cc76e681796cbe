use Rattle.std.proofs.Common.{◌≡◌, map}
use Rattle.std.specs.List.{range_with_len}
use Rattle.agent_core.specs.Agents.{beginning}
use Rattle.agent_core.specs.Deciding.{value_in}
use Rattle.nego_world.proofs.first.first_agents.Given as goal

-- the agents so far are at the beginning
abbrev pub invariant-loop-a : goal.invariant-loop-a
invariant-loop-a l = record {
  begun : map (λ agent. agent.plain) l.agents ≡ map (λ b. beginning l.d b (value_in l.d l.start b)) (range_with_len 0 l.a);
}
