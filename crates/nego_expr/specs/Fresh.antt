-- The fresh work of a deterministic diagram.
use Rattle.std.specs.Prelude.{ℕ, ◌+◌, List, [], ◌∷◌, length, map, slice_get}
use Rattle.std.specs.List.{range_with_len}
use Rattle.nego_model.specs.Expression.{Base}
use Rattle.nego_model.specs.Diagram.{PlainAtom, PlainOutcome, PlainDiagram, parties_of, atom_of, nexts_of, outcome_name}
use Rattle.nego_model.specs.Summary.{final_outcomes}
use Rattle.nego_expr.specs.Work.{WorkAtom, WorkOutcome, PlainWork}

-- the atoms, numbered from n on
abbrev pub atoms_from : ℕ → List PlainAtom → List WorkAtom
atoms_from n [] = []
atoms_from n (atom ∷ atoms) = record { number = n; parties = atom.parties } ∷ atoms_from (n + 1) atoms

-- an outcome as the alive outcome of its number: its node is of the same number, and nothing is passed
abbrev pub fresh_at : PlainDiagram → ℕ → WorkOutcome
fresh_at diagram o = record {
  number = o;
  atom = atom_of diagram o;
  targets = map (λ a. slice_get (nexts_of diagram o a) 0) (range_with_len 0 (length diagram.agents));
  node = o;
  passed = [];
}

-- the outcomes as alive ones, numbered from o on
abbrev pub outcomes_of : PlainDiagram → ℕ → List PlainOutcome → List WorkOutcome
outcomes_of diagram o [] = []
outcomes_of diagram o (outcome ∷ outcomes) = record (fresh_at diagram o) { atom = outcome.atom } ∷ outcomes_of diagram (o + 1) outcomes

-- The fresh work: each outcome keeps its number and has the node of this number, which is the outcome itself; its
-- target for an agent is the agent's next atom.
unfoldable pub fresh_work : PlainDiagram → PlainWork
fresh_work diagram = record {
  agents = length diagram.agents;
  atoms = atoms_from 0 diagram.atoms;
  first = diagram.first;
  last = diagram.last;
  nodes = map Base (range_with_len 0 (length diagram.outcomes));
  numbers = length diagram.outcomes;
  outcomes = outcomes_of diagram 0 diagram.outcomes;
  names = map (outcome_name diagram) (final_outcomes diagram);
  bases = map (λ outcome. parties_of diagram outcome.atom) diagram.outcomes;
}
