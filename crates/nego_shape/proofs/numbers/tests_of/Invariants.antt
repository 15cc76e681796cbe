use Rattle.std.proofs.Common.{◌≡◌, map, take, drop}
use Rattle.std.specs.List.{flat_map}
use Rattle.nego_reader.specs.Content.{content_of, test_content}
use Rattle.nego_reader.specs.Rising.{test_words}
use Rattle.nego_shape.specs.Faults.{others}
use Rattle.nego_shape.specs.Naming.{agent_names, test_in}
use Rattle.nego_shape.proofs.numbers.tests_of.Given as goal

abbrev pub invariant-loop-test : goal.invariant-loop-test
invariant-loop-test l = record {
  made : l.made ≡ map (λ test. test_in (content_of l.p) (test_content test)) (take l.test-index l.tests);
  declared : flat_map (λ test. others (agent_names (content_of l.p)) (test_words test)) l.tests ≡ flat_map (λ test. others (agent_names (content_of l.p)) (test_words test)) (drop l.test-index l.tests);
}
