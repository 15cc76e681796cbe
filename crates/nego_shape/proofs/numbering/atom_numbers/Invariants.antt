use Rattle.std.proofs.Common.{◌≡◌, map, take}
use Rattle.nego_shape.proofs.numbering.atom_numbers.Given as goal

abbrev pub invariant-loop-atom : goal.invariant-loop-atom
invariant-loop-atom l = l.names.keys ≡ map (λ atom. atom.name.text) (take l.atom-index l.atoms)
