-- Slots of outcomes that merge with each other.
use Rattle.std.specs.Prelude.{◌≡◌, ◌≢◌, ℕ, ◌+◌, List, Some, slice_get}
use Rattle.nego_expr.specs.Sorted.{PlainSlot}

-- Two slots are of one atom, which isn't the last, and have the same targets.
pub record AreTwins (last : ℕ) (s t : PlainSlot) : Type 0 where
  pub one_atom : s.atom ≡ t.atom
  pub not_last : s.atom ≢ last
  pub alike : s.targets ≡ t.targets

-- At the place and the next one stand twins, which are slots of these two outcomes.
pub record StandAt (last : ℕ) (slots : List PlainSlot) (i o1 o2 : ℕ) : Type 0 where
  pub first : PlainSlot
  pub second : PlainSlot
  pub here : slice_get slots i ≡ Some first
  pub next : slice_get slots (i + 1) ≡ Some second
  pub twins : AreTwins last first second
  pub first_is : first.outcome ≡ o1
  pub second_is : second.outcome ≡ o2

-- No twins stand at the place and the next one.
abbrev pub NoneStandAt : ℕ → List PlainSlot → ℕ → Type 0
NoneStandAt last slots i = (s t : PlainSlot) → slice_get slots i ≡ Some s → slice_get slots (i + 1) ≡ Some t → AreTwins last s t → ⊥
