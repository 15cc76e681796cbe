use Rattle.nego_shape.proofs.OneCycle.{one_cycle}
use Rattle.nego_shape.proofs.laws.one_cycle_is_found.Goals as goal

pub returns : goal.returns
returns c nego cycle other h k = one_cycle nego cycle other h k
