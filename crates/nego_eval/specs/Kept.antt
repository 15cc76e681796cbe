-- Rows that are kept: a number for each place, which counts from 1 and is 0 where the place has no row.
use Rattle.std.specs.Prelude.{ℕ, ◌+◌, ◌-◌, ◌^◌, ◌<◌, ◌≤◌, ◌==◌, not, if◌then◌else◌, List, length, map, slice_get, Option, None, is_some, All}
use Rattle.std.specs.List.{count_by}

-- the row of a number
abbrev pub numbered_row : List (List ℕ) → ℕ → Option (List ℕ)
numbered_row rows n = if n == 0 then None else slice_get rows (n - 1)

-- for each place its row, where it has one
unfoldable pub rows_by_place : List (List ℕ) → List ℕ → List (Option (List ℕ))
rows_by_place rows places = map (numbered_row rows) places

-- Each place has the number of a row or none, and there are places enough for all rows.
pub record AreNumbered (rows : List (List ℕ)) (places : List ℕ) : Type 0 where
  pub known : All (λ n. n ≤ length rows) places
  pub enough : length rows + count_by (λ n. n == 0) places ≤ length places
  pub few : length places < 2 ^ 32

-- how many places have no row
unfoldable pub open_places : List (Option (List ℕ)) → ℕ
open_places kept = count_by (λ row. not (is_some row)) kept
