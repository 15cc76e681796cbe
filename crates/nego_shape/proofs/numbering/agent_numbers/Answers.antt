use Rattle.nego_reader.specs.declared.parsed.PAgent.{PAgent}
use Rattle.nego_shape.proofs.Mentioned.{one_more_name}
use Rattle.nego_shape.proofs.numbering.agent_numbers.Goals as goal

pub loop-agent-preserved : goal.loop-agent-preserved
loop-agent-preserved c =
    one_more_name (λ (agent : PAgent). agent.name.text) c.args.agents.now c.requires c.loop-agent.agent-index c.agent-item.result c.loop-agent-test.true c.agent-item.is c.loop-agent.names.keys c.add.new.names.keys c.loop-agent.invariant c.in_ok-add.ensures
