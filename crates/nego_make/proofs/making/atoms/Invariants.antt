use Rattle.std.proofs.Common.{◌≡◌, map}
use Rattle.std.specs.List.{range_with_len}
use Rattle.nego_reader.specs.Content.{atom_content}
use Rattle.nego_make.specs.Generated.{atom}
use Rattle.nego_make.proofs.making.atoms.Given as goal

abbrev pub invariant-loop-i : goal.invariant-loop-i
invariant-loop-i l = map atom_content l.atoms ≡ map (atom l.n) (range_with_len 0 l.i)
