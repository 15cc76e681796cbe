use Rattle.world_text.proofs.Names.{history_named}
use Rattle.world_text.proofs.reporting.report.Goals as goal

pub put_history-requires : goal.put_history-requires
put_history-requires c = history_named c.args.d.now c.agents-agents.ensures.diagram c.args.w.now c.requires.consistent
