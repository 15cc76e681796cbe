-- The alive outcomes of a work in the order of their atoms, their targets and their numbers.
use Rattle.std.specs.Prelude.{◌≡◌, ◌↔◌, ℕ, ◌<◌, ◌≤◌, List, [], map, Option, AllPairs, Contains}
use Rattle.std.specs.Option.{option_cmp}
use Rattle.std.specs.Ordering.{nat_cmp, ordering_then}
use Rattle.std.specs.declared.cmp.Ordering.{Ordering}
use Rattle.std.specs.declared.cmp.Ordering.TheVariants.{Less}
use Rattle.std.specs.Cmp.Lexicographic.{slice_cmp}
use Rattle.nego_expr.specs.declared.slots.Slot.{Slot}
use Rattle.nego_expr.specs.Work.{WorkOutcome}

-- what is sorted of an alive outcome: its atom, for each agent its target, and its number
pub record PlainSlot : Type 0 where
  pub atom : ℕ
  pub targets : List (Option ℕ)
  pub outcome : ℕ

-- the slot of an alive outcome
abbrev pub slot_of : WorkOutcome → PlainSlot
slot_of x = record { atom = x.atom; targets = x.targets; outcome = x.number }

-- a slot, without the wrapping of its numbers
abbrev pub plain_slot : Slot → PlainSlot
plain_slot s = record { atom = s.atom.0; targets = s.targets; outcome = s.outcome.0 }

-- how two slots compare: by their atoms; of one atom by their targets, agent by agent in rising order, where nothing is
-- below each atom; and where these are equal too, by their numbers
abbrev pub slot_cmp : PlainSlot → PlainSlot → Ordering
slot_cmp s t = ordering_then (nat_cmp s.atom t.atom) (ordering_then (slice_cmp (option_cmp nat_cmp) s.targets t.targets) (nat_cmp s.outcome t.outcome))

-- A slot is below another.
abbrev pub IsBelow : PlainSlot → PlainSlot → Type 0
IsBelow s t = slot_cmp s t ≡ Less

-- These slots are exactly those of the outcomes.
abbrev pub AreSlotsOf : List WorkOutcome → List PlainSlot → Type 0
AreSlotsOf outcomes slots = (slot : PlainSlot) → Contains slots slot ↔ Contains (map slot_of outcomes) slot

-- These are the slots of the outcomes, and they rise.
pub record IsSorted (outcomes : List WorkOutcome) (slots : List PlainSlot) : Type 0 where
  pub same : AreSlotsOf outcomes slots
  pub rise : AllPairs IsBelow slots

-- Outcomes have one such list.
abbrev pub SortedSlotsAreOne : Type 0
SortedSlotsAreOne = (outcomes : List WorkOutcome) (one two : List PlainSlot) → IsSorted outcomes one → IsSorted outcomes two → one ≡ two

-- ---- by number alone

-- the slot of an outcome of this atom and number, without targets
abbrev pub member : ℕ → ℕ → PlainSlot
member n o = record { atom = n; targets = []; outcome = o }

-- an alive outcome without its targets
abbrev pub without_targets : WorkOutcome → WorkOutcome
without_targets x = record x { targets = [] }

-- These are the slots of the outcomes without their targets.
abbrev pub AreMembersOf : List WorkOutcome → List PlainSlot → Type 0
AreMembersOf outcomes slots = AreSlotsOf (map without_targets outcomes) slots

-- Of the slots without targets of this atom, and with numbers not below the one, the least has this number.
pub record IsNextOf (slots : List PlainSlot) (n from o : ℕ) : Type 0 where
  pub at_least : from ≤ o
  pub there : Contains slots (member n o)
  pub least : (m : ℕ) → from ≤ m → m < o → Contains slots (member n m) → ⊥
