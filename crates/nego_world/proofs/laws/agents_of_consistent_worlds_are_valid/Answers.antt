use Rattle.nego_world.proofs.Agents.{valid-each}
use Rattle.nego_world.proofs.laws.agents_of_consistent_worlds_are_valid.Goals as goal

pub returns : goal.returns
returns c = λ diagram world a ok single was known. valid-each diagram ok single world was a known
