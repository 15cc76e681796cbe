use Rattle.nego_reduce.proofs.UsesLead.{reduced_tells}
use Rattle.nego_reduce.proofs.laws.reduced_tells.Goals as goal

pub returns : goal.returns
returns c = reduced_tells
