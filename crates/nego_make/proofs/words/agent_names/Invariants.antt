use Rattle.std.proofs.Common.{◌≡◌, map, take}
use Rattle.nego_reader.specs.Content.{texts}
use Rattle.nego_make.specs.Generated.{agent_name}
use Rattle.nego_make.proofs.words.agent_names.Given as goal

abbrev pub invariant-loop-a : goal.invariant-loop-a
invariant-loop-a l = texts l.words ≡ map agent_name (take l.a-index l.agents)
