-- Only one order, and only one cycle, can be told.
use Rattle.std.specs.Prelude.{◌≡◌, List, ℕ}
use Rattle.nego_model.specs.Negotiation.{Negotiation}
use Rattle.nego_shape.specs.Ordering.{IsFoundCycle}
use Rattle.nego_shape.specs.Answers.{IsOrderOf}

-- Two orders of a negotiation that place the least first are equal.
abbrev pub OneOrderIsTold : Type 0
OneOrderIsTold = (nego : Negotiation) (order other : List ℕ) → IsOrderOf nego order → IsOrderOf nego other → order ≡ other

-- Two cycles that are found in a negotiation are equal.
abbrev pub OneCycleIsFound : Type 0
OneCycleIsFound = (nego : Negotiation) (cycle other : List ℕ) → IsFoundCycle nego cycle → IsFoundCycle nego other → cycle ≡ other
