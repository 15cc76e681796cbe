use Rattle.nego_reduce.proofs.bound.FewNodes.{acyclic_is_never_full}
use Rattle.nego_reduce.proofs.laws.acyclic_is_never_full.Goals as goal

pub returns : goal.returns
returns c = acyclic_is_never_full
