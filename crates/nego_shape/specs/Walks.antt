-- A walk back along the edges on its way, and the cycle that it closes.
use Rattle.std.specs.Prelude.{◌≡◌, ◌≢◌, ℕ, List, [], ◌∷◌, ◌++◌}
use Rattle.std.specs.List.{AllPairs}
use Rattle.nego_model.specs.Negotiation.{Negotiation}
use Rattle.nego_model.specs.Expression.{IsPath}
use Rattle.nego_shape.specs.Ordering.{IsLeft, IsLeastLeft, IsLeastBehind, IsTurned}

-- The walk begins with the least left atom, goes to the least left predecessor again and again, and has come to
-- `here`; those before are each there once.
pub record IsWalk (nego : Negotiation) (placed walk : List ℕ) (here : ℕ) : Type 0 where
  pub start : ℕ
  pub path : List ℕ
  pub all : start ∷ path ≡ walk ++ here ∷ []
  pub begins : IsLeastLeft nego placed start
  pub back : IsPath (IsLeastBehind nego placed) start path here
  pub once : AllPairs (λ m n. m ≢ n) walk
  pub left : IsLeft nego placed here

-- The part of the walk from this atom on, turned round, is the cycle.
pub record ClosesRound (walk : List ℕ) (again : ℕ) (cycle : List ℕ) : Type 0 where
  pub lead : List ℕ
  pub others : List ℕ
  pub parts : walk ≡ lead ++ again ∷ others
  pub turned : IsTurned (again ∷ others) cycle
