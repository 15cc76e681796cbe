use Rattle.std.proofs.Common.{[], ◌∷◌, length, map}
use Rattle.nego_reader.specs.Rows.{Agent, Atom, First, AgentRow}
use Rattle.nego_reader.specs.Answer.{ReadsTo}
use Rattle.nego_reader.proofs.pieces.agents.Given as goal

abbrev pub invariant-loop-line : goal.invariant-loop-line
invariant-loop-line l = ReadsTo (Agent ∷ Atom ∷ First ∷ []) l.lines (map AgentRow l.agents) (Agent ∷ Atom ∷ First ∷ []) l.rest

abbrev pub decreases-loop-line : goal.decreases-loop-line
decreases-loop-line l = length l.rest
