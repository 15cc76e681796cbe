use Rattle.agent_core.specs.Worlds.{first_world, plays}
use Rattle.agent_core.specs.Consistency.{IsConsistent}
use Rattle.nego_world.proofs.Beginning.{first-consistent}
use Rattle.nego_world.proofs.Happening.{if_ok, plays-consistent}
use Rattle.nego_world.proofs.laws.schedules_leave_consistent_worlds.Goals as goal

pub returns : goal.returns
returns c = λ diagram start lines ok single inside known. if_ok (IsConsistent diagram) (plays diagram (first_world diagram start) lines) (λ last h. plays-consistent diagram ok single lines (first_world diagram start) last (first-consistent diagram start inside) known h)
