-- What a number is in a text of lines: 1 to 6 digits, without a leading zero unless it is `0`.
use Rattle.std.specs.Prelude.{ℕ, ◌+◌, ◌-◌, ◌*◌, Bool, not, ◌&&◌, ◌||◌, ◌==◌, nat_le, if◌then◌else◌, List, length, slice_index, fold, Option, Some, None}
use Rattle.std.specs.List.{list_all}

-- a digit
abbrev pub is_digit : ℕ → Bool
is_digit b = nat_le 48 b && nat_le b 57

-- digits without a leading zero, unless it is the only one
abbrev pub is_numeral : List ℕ → Bool
is_numeral bytes = nat_le 1 (length bytes) && list_all is_digit bytes && (length bytes == 1 || not (slice_index bytes 0 == 48))

-- the number that goes on from another by a digit
abbrev pub onto_digit : ℕ → ℕ → ℕ
onto_digit n b = 10 * n + (b - 48)

-- the number that digits are
abbrev pub value_of : List ℕ → ℕ
value_of bytes = fold onto_digit 0 bytes

unfoldable pub number_of : List ℕ → Option ℕ
number_of bytes = if nat_le (length bytes) 6 && is_numeral bytes then Some (value_of bytes) else None
