use Rattle.std.proofs.Common.{◌≡◌, ◌++◌, ◌-◌, length}
use Rattle.std.specs.List.{flat_map, range_with_len}
use Rattle.agent_core.specs.Worlds.{agent_of}
use Rattle.world_text.specs.ReportText.{agent_lines}
use Rattle.world_text.proofs.reporting.put_agents.Given as goal

abbrev pub invariant-loop-a : goal.invariant-loop-a
invariant-loop-a l =
    l.text ++ flat_map (λ a. agent_lines l.d a (agent_of l.d l.w a)) (range_with_len l.a (length l.d.agents - l.a)) ≡ l.fn.text ++ flat_map (λ a. agent_lines l.d a (agent_of l.d l.w a)) (range_with_len 0 (length l.d.agents))
