use Rattle.std.proofs.Common.{◌≡◌, ◌≤◌, ◌+◌, ◌++◌, length, map, drop}
use Rattle.nego_reader.specs.Content.{content_of, atom_content}
use Rattle.nego_shape.specs.Naming.{outs_from}
use Rattle.nego_shape.specs.Made.{parts_from}
use Rattle.nego_shape.proofs.making.atoms_of.Given as goal

abbrev pub invariant-loop-n : goal.invariant-loop-n
invariant-loop-n l =
    (l.parts ++ parts_from (content_of l.p) l.start (map atom_content (drop l.n l.atoms)) ≡ parts_from (content_of l.p) 0 (map atom_content l.p.atoms))
    × (l.start + length (outs_from l.n (map atom_content (drop l.n l.atoms))) ≤ 256)
