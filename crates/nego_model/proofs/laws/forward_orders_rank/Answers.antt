use Rattle.nego_model.proofs.completeness.Ranks.{order-ranks}
use Rattle.nego_model.proofs.laws.forward_orders_rank.Goals as goal

pub returns : goal.returns
returns c = order-ranks
