use Rattle.nego_reduce.proofs.complete.AcyclicDecided.{sound_acyclic_works_go_on}
use Rattle.nego_reduce.proofs.laws.sound_acyclic_works_go_on.Goals as goal

pub returns : goal.returns
returns c = sound_acyclic_works_go_on
