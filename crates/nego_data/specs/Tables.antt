-- Tables: for each joint data the list of those to which it is related.
use Rattle.std.specs.Prelude.{◌≡◌, ℕ, ◌+◌, ◌*◌, ◌/◌, ◌%◌, ◌<◌, ◌≤◌, Bool, ◌==◌, List, [], length, map, filter, slice_index, slice_index_or, All}
use Rattle.std.specs.List.{range_with_len}
use Rattle.std.specs.Int.{bit_at}
use Rattle.nego_base.specs.Members.{is_in, IsRising}

-- A table has a row for each of so many joint data, and each row is a rising list of such data.
pub record IsTable (count : ℕ) (table : List (List ℕ)) : Type 0 where
  pub rows : length table ≡ count
  pub rise : All IsRising table
  pub on_data : All (λ row. All (λ e. e < count) row) table

-- whether the table relates d to e
abbrev pub is_related : List (List ℕ) → ℕ → ℕ → Bool
is_related table d e = is_in e (slice_index_or table d [])

-- the table of a test of so many joint data
abbrev pub rows_by : ℕ → (ℕ → ℕ → Bool) → List (List ℕ)
rows_by count test = map (λ d. filter (test d) (range_with_len 0 count)) (range_with_len 0 count)

-- how many words of 64 bits have a bit for each of so many joint data
abbrev pub row_words : ℕ → ℕ
row_words count = (count + 63) / 64

-- in which word the bit for d and e stands
abbrev pub word_place : ℕ → ℕ → ℕ → ℕ
word_place count d e = d * row_words count + e / 64

-- whether the bit for d and e is set
abbrev pub has_bit : ℕ → List ℕ → ℕ → ℕ → Bool
has_bit count words d e = bit_at (slice_index words (word_place count d e)) (e % 64) == 1

-- the table of so many joint data that is kept in words, a row of words for each
unfoldable pub rows_of_words : ℕ → List ℕ → List (List ℕ)
rows_of_words count words = rows_by count (has_bit count words)

-- The words are rows for so many joint data, of which there are at most 1,024.
pub record IsPacked (count : ℕ) (words : List ℕ) : Type 0 where
  pub few : count ≤ 1024
  pub enough : length words ≡ count * row_words count
