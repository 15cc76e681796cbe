use Rattle.nego_reduce.proofs.UsesLead.{uses_keep}
use Rattle.nego_reduce.proofs.laws.uses_keep.Goals as goal

pub returns : goal.returns
returns c = uses_keep
