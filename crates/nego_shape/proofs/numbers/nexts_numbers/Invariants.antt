use Rattle.std.proofs.Common.{◌≡◌, map, take, drop}
use Rattle.std.specs.List.{flat_map}
use Rattle.nego_reader.specs.Content.{content_of}
use Rattle.nego_reader.specs.Rows.{NextRow}
use Rattle.nego_shape.specs.Faults.{undeclared_in}
use Rattle.nego_shape.specs.Made.{next_numbers}
use Rattle.nego_shape.proofs.numbers.nexts_numbers.Given as goal

abbrev pub invariant-loop-next : goal.invariant-loop-next
invariant-loop-next l = record {
  made : l.made ≡ map (next_numbers (content_of l.p)) (take l.next-index l.nexts);
  declared : flat_map (λ next. undeclared_in (content_of l.p) (NextRow next)) l.nexts ≡ flat_map (λ next. undeclared_in (content_of l.p) (NextRow next)) (drop l.next-index l.nexts);
}
