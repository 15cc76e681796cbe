use Rattle.nego_reduce.proofs.Reductions.{reductions_one}
use Rattle.nego_reduce.proofs.laws.reductions_are_one.Goals as goal

pub returns : goal.returns
returns c = reductions_one
