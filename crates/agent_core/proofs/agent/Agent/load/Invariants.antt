use Rattle.std.proofs.Common.{◌≡◌, ◌+◌, length, map, take}
use Rattle.agent_msg.specs.Records.{entry}
use Rattle.agent_core.specs.Agents.{left_by, IsValid}
use Rattle.agent_core.proofs.agent.Agent.load.Given as goal

-- the agent is as the records so far leave it, with room for those to come
abbrev pub invariant-loop-i : goal.invariant-loop-i
invariant-loop-i l = record {
  left : l.agent.plain ≡ left_by l.d l.fn.id.0 l.start (take l.i (map entry l.journal));
  spare : l.agent.spare + l.i ≡ length l.journal;
  valid : IsValid l.d l.agent.plain;
}
