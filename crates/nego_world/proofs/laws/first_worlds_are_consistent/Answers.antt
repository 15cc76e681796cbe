use Rattle.nego_world.proofs.Beginning.{first-consistent}
use Rattle.nego_world.proofs.laws.first_worlds_are_consistent.Goals as goal

pub returns : goal.returns
returns c = first-consistent
