use Rattle.nego_reduce.proofs.NextUses.{next_one}
use Rattle.nego_reduce.proofs.laws.next_uses_are_one.Goals as goal

pub returns : goal.returns
returns c = next_one
