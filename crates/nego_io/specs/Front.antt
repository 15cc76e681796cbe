-- The bytes that were read of a part that has not come to its end.
use Rattle.std.specs.Prelude.{◌≡◌, ℕ, ◌+◌, ◌≤◌, Bool, List, ◌∷◌, ◌++◌, ◌||◌, ◌==◌, not, false, length, take, drop, Some, option_map}
use Rattle.std.specs.List.{list_any}
use Rattle.nego_base.specs.Lines.{is_newline, is_blank}
use Rattle.nego_io.specs.Part.{part_of, newlines}

-- The bytes are lines with their newlines, none of them an end line, and from `start` on the beginning of one more line.
pub record IsOpen (bytes : List ℕ) (start lines : ℕ) : Type 0 where
  pub within : start ≤ length bytes
  -- the part of what follows these lines is theirs and what it would be alone
  pub passes : (rest : List ℕ) → part_of (take start bytes ++ rest) ≡ option_map (λ part. take start bytes ++ part) (part_of rest)
  pub unfinished : list_any is_newline (drop start bytes) ≡ false
  pub counted : lines ≡ newlines bytes

-- These bytes are a part, whatever follows them.
abbrev pub IsClosed : List ℕ → Type 0
IsClosed bytes = (rest : List ℕ) → part_of (bytes ++ rest) ≡ Some bytes

-- whether a line that begins with this byte is no end line, and goes on
abbrev pub begins_other : ℕ → Bool
begins_other b = not (is_blank b || (is_newline b || (b == 13 || b == 101)))

-- A part that begins with these bytes, and with more, is longer than they are by at least n.
abbrev pub Reaches : List ℕ → ℕ → Type 0
Reaches bytes n = (next : ℕ) (rest part : List ℕ) → part_of (bytes ++ next ∷ rest) ≡ Some part → length bytes + n ≤ length part
