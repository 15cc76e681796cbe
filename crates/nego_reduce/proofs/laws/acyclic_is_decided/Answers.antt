use Rattle.nego_reduce.proofs.complete.AcyclicDecided.{acyclic_is_decided}
use Rattle.nego_reduce.proofs.laws.acyclic_is_decided.Goals as goal

pub returns : goal.returns
returns c = acyclic_is_decided
