use Rattle.std.proofs.Common.{[], ◌∷◌, length, map}
use Rattle.nego_reader.specs.Rows.{Next, Out, Atom, First, NextRow}
use Rattle.nego_reader.specs.Answer.{ReadsTo}
use Rattle.nego_reader.proofs.pieces.nexts.Given as goal

abbrev pub invariant-loop-line : goal.invariant-loop-line
invariant-loop-line l = ReadsTo (Next ∷ Out ∷ Atom ∷ First ∷ []) l.lines (map NextRow l.nexts) (Next ∷ Out ∷ Atom ∷ First ∷ []) l.rest

abbrev pub decreases-loop-line : goal.decreases-loop-line
decreases-loop-line l = length l.rest
