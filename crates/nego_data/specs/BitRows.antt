-- Sets of joint data as rows of bits, in words of 64 bits.
use Rattle.std.specs.Prelude.{ℕ, ◌-◌, ◌/◌, ◌%◌, Bool, ◌&&◌, ◌==◌, nat_le, if◌then◌else◌, List, slice_index}
use Rattle.std.specs.Int.{bit_at}

-- whether the bit for e is set
abbrev pub is_set : List ℕ → ℕ → Bool
is_set row e = bit_at (slice_index row (e / 64)) (e % 64) == 1

-- whether the bit for e is set once all bits are moved up
abbrev pub is_moved : List ℕ → ℕ → ℕ → Bool
is_moved row by e = nat_le by e && is_set row (e - by)

-- the word so many places below one, or 0 where the row begins above it
abbrev pub word_below : List ℕ → ℕ → ℕ → ℕ
word_below row place down = if nat_le down place then slice_index row (place - down) else 0
