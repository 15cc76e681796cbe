use Rattle.nego_reduce.proofs.bound.AliveOutcomes.{alive_are_of_the_diagram}
use Rattle.nego_reduce.proofs.laws.alive_are_of_the_diagram.Goals as goal

pub returns : goal.returns
returns c = alive_are_of_the_diagram
