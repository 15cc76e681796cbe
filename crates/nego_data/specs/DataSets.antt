-- Sets of joint data as rows of bits.
use Rattle.std.specs.Prelude.{◌≡◌, ℕ, ◌<◌, ◌≤◌, Bool, true, false, List}
use Rattle.std.specs.List.{filter, range_with_len}
use Rattle.nego_data.specs.BitRows.{is_set}

-- the numbers below 1,024 whose bits are set, rising
unfoldable pub set_members : List ℕ → List ℕ
set_members words = filter (is_set words) (range_with_len 0 1024)

-- What is in one set, from a number on and below an end, is in the other.
abbrev pub IsNoneBesides : (ℕ → Bool) → (ℕ → Bool) → ℕ → ℕ → Type 0
IsNoneBesides in_set in_other from end = (e : ℕ) → from ≤ e → e < end → in_set e ≡ true → in_other e ≡ true

-- The number is the least, from one on and below an end, that is in one set and not in the other.
pub record IsLeastBesides (in_set in_other : ℕ → Bool) (from end e : ℕ) : Type 0 where
  pub within : in_set e ≡ true
  pub without : in_other e ≡ false
  pub beyond : from ≤ e
  pub below : e < end
  pub least : IsNoneBesides in_set in_other from e
