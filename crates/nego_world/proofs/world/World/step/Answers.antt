use Rattle.nego_world.specs.Events.{plain_event}
use Rattle.nego_world.proofs.Acting.{consistent-step}
use Rattle.nego_world.proofs.world.World.step.Goals as goal

pub returns-clause-consistent : goal.returns-clause-consistent
returns-clause-consistent c =
    consistent-step c.args.d.now c.agents-agents.ensures.diagram c.requires.deterministic c.args.self.now c.happen.new.self (plain_event c.args.e.now) c.happen.result c.requires.consistent c.requires.known c.happen.ensures.ok c.happen.ensures.unchanged
