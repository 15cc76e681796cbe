-- What an order of a diagram's atoms, or a cycle, tells.
use Rattle.std.specs.Prelude.{ℕ, List, map}
use Rattle.nego_base.specs.declared.ids.AtomId.{AtomId}
use Rattle.nego_model.specs.Negotiation.{Negotiation}
use Rattle.nego_model.specs.Acyclic.{IsForwardOrder, IsAcyclic}
use Rattle.nego_shape.specs.Ordering.{PlacesLeast, IsFoundCycle, IsCycle}
use Rattle.nego_shape.specs.declared.answer.Order.{Order}
use Rattle.nego_shape.specs.declared.answer.Order.TheVariants.{Acyclic, Cycle}

-- the numbers of atoms
abbrev pub numbers : List AtomId → List ℕ
numbers atoms = map (λ atom. atom.0) atoms

-- Every edge goes forward in the order, and each atom in it is the least that can be placed behind those before it.
pub record IsOrderOf (nego : Negotiation) (order : List ℕ) : Type 0 where
  pub forward : IsForwardOrder nego order
  pub least : PlacesLeast nego order

-- The list is a cycle, the one that is found; and so no order has every edge going forward.
pub record IsCycleOf (nego : Negotiation) (cycle : List ℕ) : Type 0 where
  pub found : IsFoundCycle nego cycle
  pub goes_round : IsCycle nego cycle
  pub cyclic : IsAcyclic nego → ⊥

-- The answer is right: an order of an acyclic negotiation, or a cycle of one that isn't.
abbrev pub OrderHolds : Negotiation → Order → Type 0
OrderHolds nego (Acyclic order) = IsOrderOf nego (numbers order)
OrderHolds nego (Cycle cycle) = IsCycleOf nego (numbers cycle)
