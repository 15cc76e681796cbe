use Rattle.std.proofs.Common.{◌≡◌, map, take, drop}
use Rattle.std.specs.List.{flat_map}
use Rattle.nego_reader.specs.Content.{content_of, set_content}
use Rattle.nego_reader.specs.Rising.{set_words}
use Rattle.nego_shape.specs.Faults.{others}
use Rattle.nego_shape.specs.Naming.{agent_names, set_in}
use Rattle.nego_shape.proofs.numbers.sets_of.Given as goal

abbrev pub invariant-loop-set : goal.invariant-loop-set
invariant-loop-set l = record {
  made : l.made ≡ map (λ set. set_in (content_of l.p) (set_content set)) (take l.set-index l.sets);
  declared : flat_map (λ set. others (agent_names (content_of l.p)) (set_words set)) l.sets ≡ flat_map (λ set. others (agent_names (content_of l.p)) (set_words set)) (drop l.set-index l.sets);
}
