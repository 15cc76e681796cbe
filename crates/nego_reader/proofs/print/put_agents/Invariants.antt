use Rattle.std.proofs.Common.{◌≡◌, ◌++◌, drop, map}
use Rattle.nego_reader.specs.Rows.{AgentRow}
use Rattle.nego_reader.specs.PrintedLines.{row_texts}
use Rattle.nego_reader.proofs.print.put_agents.Given as goal

abbrev pub invariant-loop-agent : goal.invariant-loop-agent
invariant-loop-agent l = l.text ++ row_texts (map AgentRow (drop l.agent-index l.agents)) ≡ l.fn.text ++ row_texts (map AgentRow l.agents)
