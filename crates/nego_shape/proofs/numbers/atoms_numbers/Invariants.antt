use Rattle.std.proofs.Common.{◌≡◌, map, take, drop}
use Rattle.std.specs.List.{flat_map}
use Rattle.nego_reader.specs.Content.{content_of}
use Rattle.nego_shape.specs.Made.{atom_numbers}
use Rattle.nego_shape.specs.Undeclared.{undeclared_in_atom}
use Rattle.nego_shape.proofs.numbers.atoms_numbers.Given as goal

abbrev pub invariant-loop-atom : goal.invariant-loop-atom
invariant-loop-atom l = record {
  made : l.made ≡ map (atom_numbers (content_of l.p)) (take l.atom-index l.atom-items);
  declared : flat_map (undeclared_in_atom (content_of l.p)) l.atom-items ≡ flat_map (undeclared_in_atom (content_of l.p)) (drop l.atom-index l.atom-items);
}
