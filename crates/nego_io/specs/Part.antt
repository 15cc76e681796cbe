-- Parts of an input. A part is the input's lines up to the first whose only word is `end`, and that line.
use Rattle.std.specs.Prelude.{ℕ, ◌+◌, Bool, List, [], ◌∷◌, length, drop, Option, Some, None, option_map, count_by, codes, bytes_eq, nat_le, if◌then◌else◌}
use Rattle.std.specs.Cmp.Lexicographic.{pointwise}
use Rattle.std.specs.List.{concat}
use Rattle.std.specs.Option.{option_map_or}
use Rattle.nego_base.specs.Lines.{lines, words, without_end, is_newline}

-- whether the only word of these bytes is `end`
abbrev pub is_end : List ℕ → Bool
is_end bytes = pointwise bytes_eq (words bytes) (codes "end" ∷ [])

-- whether the only word of a line is `end`
abbrev pub is_end_line : List ℕ → Bool
is_end_line line = is_end (without_end line)

-- the lines up to the first end line, and that line; None where there is no such line
abbrev pub up_to_end : List (List ℕ) → Option (List (List ℕ))
up_to_end [] = None
up_to_end (line ∷ rest) = if is_end_line line then Some (line ∷ []) else option_map (λ more. line ∷ more) (up_to_end rest)

-- the part that an input begins with
unfoldable pub part_of : List ℕ → Option (List ℕ)
part_of input = option_map concat (up_to_end (lines input))

-- the number of newlines
abbrev pub newlines : List ℕ → ℕ
newlines bytes = count_by is_newline bytes

-- What an input holds for one who takes at most so many bytes of a part.
pub data Reading : Type 0 where
  -- a part within the limit: its bytes, and what is left behind it
  Whole : List ℕ → List ℕ → Reading
  -- the part is longer than the limit, or there is none and the input is longer
  PastLimit : Reading
  -- the input is within the limit and has no end line: the line on which one is missing
  Unended : ℕ → Reading

-- what it holds where it begins with this part
abbrev pub ended : ℕ → List ℕ → List ℕ → Reading
ended limit input part = if nat_le (length part) limit then Whole part (drop (length part) input) else PastLimit

-- what it holds where it has no part
abbrev pub unended : ℕ → List ℕ → Reading
unended limit input = if nat_le (length input) limit then Unended (1 + newlines input) else PastLimit

-- what an input holds for one who takes at most `limit` bytes of a part
unfoldable pub reading : ℕ → List ℕ → Reading
reading limit input = option_map_or (ended limit input) (part_of input) (unended limit input)

-- what is left of an input, by what it holds, behind what is taken of it for a part
abbrev pub left_over : ℕ → List ℕ → Reading → List ℕ
left_over limit input (Whole part left) = left
left_over limit input PastLimit = drop (limit + 1) input
left_over limit input (Unended line) = []

-- what is left of an input behind what is taken of it for a part
abbrev pub behind : ℕ → List ℕ → List ℕ
behind limit input = left_over limit input (reading limit input)
