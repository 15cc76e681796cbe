use Rattle.nego_world.proofs.Finishing.{finishes-complete}
use Rattle.nego_world.proofs.laws.consistent_worlds_finish_complete.Goals as goal

pub returns : goal.returns
returns c = λ diagram world ok single was. finishes-complete diagram ok single world was
