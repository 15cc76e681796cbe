use Rattle.agent_core.specs.Worlds.{step}
use Rattle.agent_core.specs.Consistency.{IsConsistent}
use Rattle.nego_world.proofs.Happening.{if_ok, step-consistent}
use Rattle.nego_world.proofs.laws.events_keep_worlds_consistent.Goals as goal

pub returns : goal.returns
returns c = λ diagram world event ok single was known. if_ok (IsConsistent diagram) (step diagram world event) (λ next h. step-consistent diagram ok single world next was event known h)
