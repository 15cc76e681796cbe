use Rattle.std.proofs.Common.{◌≡◌, map, take}
use Rattle.nego_reader.specs.Content.{agent_content}
use Rattle.nego_make.specs.Generated.{agent}
use Rattle.nego_make.proofs.making.agents.Given as goal

abbrev pub invariant-loop-a : goal.invariant-loop-a
invariant-loop-a l = map agent_content l.agents ≡ map agent (take l.a-index l.a-items)
