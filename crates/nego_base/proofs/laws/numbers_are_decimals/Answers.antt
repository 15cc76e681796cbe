use Rattle.nego_base.proofs.NumberLaws.{number_law}
use Rattle.nego_base.proofs.laws.numbers_are_decimals.Goals as goal

pub returns : goal.returns
returns c = number_law
