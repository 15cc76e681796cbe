use Rattle.std.proofs.Common.{◌≡◌, map, take}
use Rattle.std.specs.List.{filter}
use Rattle.nego_reader.specs.Content.{texts}
use Rattle.nego_make.specs.Generated.{agent_name, is_next}
use Rattle.nego_make.proofs.outcomes.movers.Given as goal

abbrev pub invariant-loop-a : goal.invariant-loop-a
invariant-loop-a l = texts l.agents ≡ map agent_name (filter (is_next l.n l.i l.j) (take l.a-index l.a-items))
