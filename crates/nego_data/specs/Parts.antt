-- The parties' part of joint data, which is all that an outcome reads and changes.
use Rattle.std.specs.Prelude.{◌≡◌, ℕ, ◌+◌, Bool, ◌&&◌, ◌||◌, ◌==◌, if◌then◌else◌, List, [], ◌∷◌, map, slice_index}
use Rattle.std.specs.List.{list_all, range_with_len}
use Rattle.nego_base.specs.Members.{is_in}
use Rattle.nego_data.specs.Data.{data_count, joint}
use Rattle.nego_data.specs.Places.{owner_of}
use Rattle.nego_data.specs.Sizes.{AreSizes, tuple_of}
use Rattle.nego_data.specs.Tables.{IsTable, is_related, rows_by}

-- the sizes from place k on, but 1 for whom is no party
abbrev pub part_from : ℕ → List ℕ → List ℕ → List ℕ
part_from k parties [] = []
part_from k parties (size ∷ sizes) = (if is_in (owner_of k) parties then size else 1) ∷ part_from (k + 1) parties sizes

-- the sizes of the parties, and 1 for everyone else
unfoldable pub part_sizes : List ℕ → List ℕ → List ℕ
part_sizes parties sizes = part_from 0 parties sizes

-- the values of the parties, and 0 for everyone else
unfoldable pub part_values : List ℕ → List ℕ → List ℕ
part_values parties values = map (λ k. if is_in (owner_of k) parties then slice_index values k else 0) (range_with_len 0 16)

-- the number of the parties' values in joint data, among all values that the parties may have
unfoldable pub part_number : List ℕ → List ℕ → ℕ → ℕ
part_number parties sizes d = joint (part_sizes parties sizes) (part_values parties (tuple_of sizes d))

-- whether everyone else has the same value in both
abbrev pub are_kept : List ℕ → List ℕ → List ℕ → Bool
are_kept parties old new = list_all (λ k. is_in (owner_of k) parties || slice_index old k == slice_index new k) (range_with_len 0 16)

-- The table of all joint data that a table of the parties' values is: these are related as it says, and everyone else
-- keeps the value.
unfoldable pub widened : List ℕ → List ℕ → List (List ℕ) → List (List ℕ)
widened parties sizes rows =
    rows_by (data_count sizes) (λ d e. are_kept parties (tuple_of sizes d) (tuple_of sizes e) && is_related rows (part_number parties sizes d) (part_number parties sizes e))

-- These are sizes, those of the parties, and a table of the parties' values.
pub record IsPart (parties whole part : List ℕ) (table : List (List ℕ)) : Type 0 where
  pub sizes : AreSizes whole
  pub part_is : part ≡ part_sizes parties whole
  pub rows : IsTable (data_count part) table
