use Rattle.std.proofs.Common.{[], ◌∷◌, length, map}
use Rattle.nego_reader.specs.Rows.{Case, Next, Out, Atom, First, CaseRow}
use Rattle.nego_reader.specs.Answer.{ReadsTo}
use Rattle.nego_reader.proofs.pieces.cases.Given as goal

abbrev pub invariant-loop-line : goal.invariant-loop-line
invariant-loop-line l = ReadsTo (Case ∷ Next ∷ Out ∷ Atom ∷ First ∷ []) l.lines (map CaseRow l.cases) (Case ∷ Next ∷ Out ∷ Atom ∷ First ∷ []) l.rest

abbrev pub decreases-loop-line : goal.decreases-loop-line
decreases-loop-line l = length l.rest
