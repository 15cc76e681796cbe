-- What makers of tables are, and what they keep.
use Rattle.std.specs.Prelude.{◌≡◌, ℕ, ◌<◌, ◌&&◌, ◌⊎◌, nat_lt, List, [], length, map}
use Rattle.std.specs.List.{All, range_with_len}
use Rattle.nego_data.specs.declared.covered.Known.{Known}
use Rattle.nego_data.specs.declared.giving.FreeOffsets.{FreeOffsets}
use Rattle.nego_data.specs.BitRows.{is_set}
use Rattle.nego_data.specs.Covered.{IsKnown}
use Rattle.nego_data.specs.Data.{data_count}
use Rattle.nego_data.specs.Given.{is_offset}
use Rattle.nego_data.specs.Parts.{part_sizes}
use Rattle.nego_data.specs.Sizes.{AreSizes, tuple_of}

-- whose data an atom's outcomes are about, and who the atom's parties are
pub record MakerState : Type 0 where
  pub sizes : List ℕ
  pub parties : List ℕ

-- The set has just the joint data in which no agent but the free ones has a value above 0.
abbrev pub AreOffsets : List ℕ → List ℕ → List ℕ → Type 0
AreOffsets sizes free set = (o : ℕ) → is_set set o ≡ (is_offset free (tuple_of sizes o) && nat_lt o (data_count sizes))

-- What is kept of free agents is so.
abbrev pub HasOffsets : List ℕ → FreeOffsets → Type 0
HasOffsets sizes kept = AreOffsets sizes kept.free kept.those.words

-- The values are those of all joint data, one after the other, or weren't made.
abbrev pub AreMadeOnce : List ℕ → List (List ℕ) → Type 0
AreMadeOnce sizes values = (values ≡ []) ⊎ (values ≡ map (tuple_of sizes) (range_with_len 0 (data_count sizes)))

-- The parties' sizes are these, and what is kept of their joint data is so.
pub record IsMaker (parties whole part : List ℕ) (made : List (List ℕ)) (tests : List Known) (kept : List FreeOffsets) : Type 0 where
  pub sizes : AreSizes whole
  pub are_below : All (λ a. a < length whole) parties
  pub part_is : part ≡ part_sizes parties whole
  pub values : AreMadeOnce part made
  pub known : All (IsKnown part) tests
  pub offsets : All (HasOffsets part) kept
