use Rattle.nego_reduce.proofs.bound.FewUses.{uses_are_few}
use Rattle.nego_reduce.proofs.laws.uses_are_few.Goals as goal

pub returns : goal.returns
returns c = uses_are_few
