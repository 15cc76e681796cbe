use Rattle.std.proofs.Common.{[], ◌∷◌, length}
use Rattle.std.specs.List.{flat_map}
use Rattle.nego_reader.specs.Rows.{Atom, First, atom_rows}
use Rattle.nego_reader.specs.Answer.{ReadsTo}
use Rattle.nego_reader.proofs.pieces.atoms.Given as goal

abbrev pub invariant-loop-line : goal.invariant-loop-line
invariant-loop-line l = ReadsTo (Atom ∷ First ∷ []) l.lines (flat_map atom_rows l.atoms) (Atom ∷ First ∷ []) l.rest

abbrev pub decreases-loop-line : goal.decreases-loop-line
decreases-loop-line l = length l.rest
