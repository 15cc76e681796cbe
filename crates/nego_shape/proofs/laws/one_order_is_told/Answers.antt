use Rattle.nego_shape.proofs.OneOrder.{one_order}
use Rattle.nego_shape.proofs.laws.one_order_is_told.Goals as goal

pub returns : goal.returns
returns c nego order other h k = one_order nego order other h k
