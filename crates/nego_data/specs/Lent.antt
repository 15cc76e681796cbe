-- Rows of the parties' values that are lent as rows of all joint data.
use Rattle.std.specs.Prelude.{◌≡◌, ℕ, ◌+◌, ◌-◌, ◌<◌, ◌≤◌, true, List, length, map, slice_index, Option, MatchOption}
use Rattle.std.specs.List.{range_with_len}
use Rattle.nego_base.specs.Members.{is_in, IsRisingBelow}
use Rattle.nego_data.specs.Data.{data_count, joint}
use Rattle.nego_data.specs.Sizes.{tuple_of}
use Rattle.nego_data.specs.Parts.{IsPart}

-- for each number of the parties' values the joint data with these values in which everyone else has 0
abbrev pub spread_of : List ℕ → List ℕ → List ℕ
spread_of whole part = map (λ n. joint whole (tuple_of part n)) (range_with_len 0 (data_count part))

-- This is a table of the parties' values, with where their numbers stand among all joint data unless everyone is a party.
pub record IsLent (parties whole part : List ℕ) (table : List (List ℕ)) (spread : Option (List ℕ)) : Type 0 where
  pub is_part : IsPart parties whole part table
  pub stands : MatchOption spread (part ≡ whole) (λ s. s ≡ spread_of whole part)

-- There are as many sizes, and each is at most the other.
pub record AreNarrower (part whole : List ℕ) : Type 0 where
  pub as_many : length part ≡ length whole
  pub each : (a : ℕ) → a < length whole → slice_index part a ≤ slice_index whole a

-- The set has the numbers of a row, each moved by how far d is from where the number stands.
pub record IsMoved (row spread : List ℕ) (d number : ℕ) (moved : List ℕ) : Type 0 where
  pub sound : (e : ℕ) → is_in e moved ≡ true → (n : ℕ) × (is_in n row ≡ true) × (e + slice_index spread number ≡ d + slice_index spread n)
  pub complete : (n : ℕ) → is_in n row ≡ true → is_in (d + slice_index spread n - slice_index spread number) moved ≡ true
  pub rising : IsRisingBelow 1024 moved
