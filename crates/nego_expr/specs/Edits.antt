-- What the edits of a work make of its outcomes and nodes.
use Rattle.std.specs.Prelude.{ℕ, ◌+◌, not, ◌==◌, if◌then◌else◌, List, [], ◌∷◌, ◌++◌, length, map, filter}
use Rattle.nego_model.specs.Expression.{PlainNode, Then}
use Rattle.nego_expr.specs.Work.{WorkOutcome, PlainWork, outcomes_at}

-- the outcomes, of which the one of this number is another now
abbrev pub with_outcome : WorkOutcome → List WorkOutcome → List WorkOutcome
with_outcome new outcomes = map (λ outcome. if outcome.number == new.number then new else outcome) outcomes

-- the outcomes but for one
abbrev pub without_outcome : ℕ → List WorkOutcome → List WorkOutcome
without_outcome o outcomes = filter (λ outcome. not (outcome.number == o)) outcomes

-- the work without one of its atoms and its outcomes
abbrev pub without_atom : ℕ → PlainWork → PlainWork
without_atom n work = record work {
  atoms = filter (λ atom. not (atom.number == n)) work.atoms;
  outcomes = filter (λ outcome. not (outcome.atom == n)) work.outcomes;
}

-- for each outcome a node: the node x, then the outcome's
abbrev pub nodes_then : ℕ → List WorkOutcome → List PlainNode
nodes_then x [] = []
nodes_then x (outcome ∷ outcomes) = Then x outcome.node ∷ nodes_then x outcomes

-- the outcomes, of which those of the atom have the nodes from i on
abbrev pub with_nodes_at : ℕ → ℕ → List WorkOutcome → List WorkOutcome
with_nodes_at n i [] = []
with_nodes_at n i (outcome ∷ outcomes) =
    if outcome.atom == n
    then record outcome { node = i } ∷ with_nodes_at n (i + 1) outcomes
    else outcome ∷ with_nodes_at n i outcomes

-- the work in which each outcome of the atom has a new node: the node x, then the node that it had
abbrev pub then_each : ℕ → ℕ → PlainWork → PlainWork
then_each x n work = record work {
  nodes = work.nodes ++ nodes_then x (outcomes_at work n);
  outcomes = with_nodes_at n (length work.nodes) work.outcomes;
}
