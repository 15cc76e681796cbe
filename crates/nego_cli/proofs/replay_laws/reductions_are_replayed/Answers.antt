use Rattle.nego_cli.proofs.ReplayedReductions.{reductions_replayed}
use Rattle.nego_cli.proofs.replay_laws.reductions_are_replayed.Goals as goal

pub returns : goal.returns
returns c = reductions_replayed
