use Rattle.std.proofs.Common.{◌≡◌, map, take, drop}
use Rattle.std.specs.List.{flat_map}
use Rattle.nego_reader.specs.Content.{content_of}
use Rattle.nego_shape.specs.Made.{out_numbers}
use Rattle.nego_shape.specs.Undeclared.{undeclared_in_out}
use Rattle.nego_shape.proofs.numbers.outs_numbers.Given as goal

abbrev pub invariant-loop-out : goal.invariant-loop-out
invariant-loop-out l = record {
  made : l.made ≡ map (out_numbers (content_of l.p)) (take l.out-index l.outs);
  declared : flat_map (undeclared_in_out (content_of l.p)) l.outs ≡ flat_map (undeclared_in_out (content_of l.p)) (drop l.out-index l.outs);
}
