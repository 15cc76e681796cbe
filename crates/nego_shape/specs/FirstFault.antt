-- The first fault of shape of a text.
use Rattle.std.specs.Prelude.{◌≡◌, ◌⊎◌, ℕ, ◌<◌, All}
use Rattle.std.specs.List.{Contains}
use Rattle.nego_reader.specs.declared.parsed.Parsed.{Parsed}
use Rattle.nego_reader.specs.Content.{Content, content_of}
use Rattle.nego_reader.specs.Rising.{HasRisingWords}
use Rattle.nego_shape.specs.declared.fault.ShapeFault.{ShapeFault}
use Rattle.nego_shape.specs.Conditions.{Condition, Holds, SomeAgent, FewAgents, FewAtoms, FewOutcomes, NamedOnce, AllDeclared, SomeParty, SomeOutcome, AllBegin, AllEnd, AllSent, NoStranger, LastEnds, PartiesAlone, NoZeroSize, NoLargeSize, NoLargeJoint, NoLargeValue, AllCovered}
use Rattle.nego_shape.specs.Faults.{faults, IsAhead}

-- the place of a condition in the order, from 0
abbrev pub place : Condition → ℕ
place SomeAgent = 0
place FewAgents = 1
place FewAtoms = 2
place FewOutcomes = 3
place NamedOnce = 4
place AllDeclared = 5
place SomeParty = 6
place SomeOutcome = 7
place AllBegin = 8
place AllEnd = 9
place AllSent = 10
place NoStranger = 11
place LastEnds = 12
place PartiesAlone = 13
place NoZeroSize = 14
place NoLargeSize = 15
place NoLargeJoint = 16
place NoLargeValue = 17
place AllCovered = 18

-- The content meets each condition before this place.
abbrev pub Met : Content → ℕ → Type 0
Met c n = (other : Condition) → place other < n → Holds other c

-- The content breaks this condition, and it meets each one before it.
pub record IsFirstBroken (c : Content) (condition : Condition) : Type 0 where
  pub met : Met c (place condition)
  pub broken : ¬ Holds condition c

-- The fault breaks the first condition that is broken, it stands in the text, and where the text's words rise, as in each
-- text that is read, every other fault that breaks this condition stands behind it.
pub record IsFirstFault (p : Parsed) (fault : ShapeFault) : Type 0 where
  pub condition : Condition
  pub first : IsFirstBroken (content_of p) condition
  pub number : ℕ
  pub stands : Contains (faults condition p) (record { fault = fault; number = number })
  pub least : HasRisingWords p → All (λ other. (other ≡ record { fault = fault; number = number }) ⊎ IsAhead (record { fault = fault; number = number }) other) (faults condition p)
