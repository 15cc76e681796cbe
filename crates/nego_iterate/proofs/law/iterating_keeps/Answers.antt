use Rattle.nego_iterate.proofs.IterateKeeps.{iterating}
use Rattle.nego_iterate.proofs.law.iterating_keeps.Goals as goal

pub returns : goal.returns
returns c = iterating
