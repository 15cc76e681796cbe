use Rattle.nego_model.proofs.completeness.OneWayOut.{one_way_out}
use Rattle.nego_model.proofs.laws.outcomes_that_enter_none_send_alike.Goals as goal

pub returns : goal.returns
returns c = one_way_out
