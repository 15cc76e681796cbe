use Rattle.nego_reduce.proofs.complete.AcyclicWorks.{acyclic_works_ranked}
use Rattle.nego_reduce.proofs.laws.acyclic_works_stay_ranked.Goals as goal

pub returns : goal.returns
returns c = acyclic_works_ranked
