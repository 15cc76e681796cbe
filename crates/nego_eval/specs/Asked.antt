-- Which rows are asked for.
use Rattle.std.specs.Prelude.{◌≡◌, ◌⊎◌, ℕ, List, [], ◌∷◌, slice_get, Some}
use Rattle.std.specs.List.{Contains}
use Rattle.nego_model.specs.Joining.{Relation}
use Rattle.nego_model.specs.Expression.{PlainNode, Base, Join, Then, Star}
use Rattle.nego_eval.specs.declared.rows.Pair.{Pair}

-- The row of a node i and a start x asks for that of j and y. A union asks for its two nodes at its start; a composition
-- for its first node there, and for its second at each number that the first relates to the start; a star for its node
-- and for itself at each number that it reaches.
abbrev pub NodeAsks : Relation → PlainNode → ℕ → ℕ → ℕ → ℕ → Type 0
NodeAsks means (Base o) i x j y = ⊥
NodeAsks means (Join a b) i x j y = ((j ≡ a) ⊎ (j ≡ b)) × (y ≡ x)
NodeAsks means (Then a b) i x j y = ((j ≡ a) × (y ≡ x)) ⊎ ((j ≡ b) × means a x y)
NodeAsks means (Star a) i x j y = ((j ≡ a) ⊎ (j ≡ i)) × means i x y

-- The row of a pair asks for that of another.
pub record Asks (means : Relation) (nodes : List PlainNode) (pair other : Pair) : Type 0 where
  pub node : PlainNode
  pub here : slice_get nodes pair.node.0 ≡ Some node
  pub asks : NodeAsks means node pair.node.0 pair.start other.node.0 other.start

-- The pair is asked for along the path: its first pair asks for the pair, each for the one before it, and the last is
-- one of the roots.
abbrev pub IsAskedAlong : Relation → List PlainNode → List Pair → List Pair → Pair → Type 0
IsAskedAlong means nodes roots [] pair = Contains roots pair
IsAskedAlong means nodes roots (p ∷ path) pair = Asks means nodes p pair × IsAskedAlong means nodes roots path p

-- The pair is one of the roots, or is asked for by one that is asked for.
abbrev pub IsAsked : Relation → List PlainNode → List Pair → Pair → Type 0
IsAsked means nodes roots pair = (path : List Pair) × IsAskedAlong means nodes roots path pair
