-- What is read of an input, part by part.
use Rattle.std.specs.Prelude.{◌≡◌, ◌⊎◌, ℕ, zero, suc, List, [], ◌∷◌, length}
use Rattle.nego_io.specs.Part.{Reading, Whole, PastLimit, Unended, reading, behind}
use Rattle.nego_io.specs.Outside.{WhereTold}
use Rattle.nego_io.specs.Answer.{TakesWithin}
use Rattle.nego_cli.specs.Effect.{Effect, Stayed}

-- how many bytes a part may have
abbrev pub part_limit : ℕ
part_limit = 262144

-- What was read where a part was wanted: its bytes; or there are too many; or the input has no end, which is missing on
-- this line.
pub data Read : Type 0 where
  ReadPart : List ℕ → Read
  ReadTooLong : Read
  ReadNoEnd : ℕ → Read

abbrev pub read_of : Reading → Read
read_of (Whole part left) = ReadPart part
read_of PastLimit = ReadTooLong
read_of (Unended line) = ReadNoEnd line

-- what is read of an input where a part is wanted
abbrev pub read_at : List ℕ → Read
read_at input = read_of (reading part_limit input)

-- what is read of an input where so many parts are wanted, one behind the other
abbrev pub reads_at : ℕ → List ℕ → List Read
reads_at zero input = []
reads_at (suc n) input = read_at input ∷ reads_at n (behind part_limit input)

-- what is left of an input behind so many parts
abbrev pub behind_parts : ℕ → List ℕ → List ℕ
behind_parts zero input = input
behind_parts (suc n) input = behind_parts n (behind part_limit input)

-- This is what is read of an input, and what is left behind it.
abbrev pub Reads : List Read → List ℕ → List ℕ → Type 0
Reads reads input left = (reads ≡ reads_at (length reads) input) × (left ≡ behind_parts (length reads) input)

-- No call of the source failed, and where it tells, this is what was read, and nothing more was taken.
abbrev pub HasRead : List Read → Effect → Type 0
HasRead reads source = Stayed source × WhereTold source.before source.after (Reads reads)

-- Nothing of what is behind so many parts was taken.
abbrev pub TakesParts : ℕ → List ℕ → List ℕ → Type 0
TakesParts zero input now = input ≡ now
TakesParts (suc n) input now = TakesWithin part_limit input now ⊎ TakesParts n (behind part_limit input) now

-- Where the source tells, nothing of what is behind so many parts was taken.
abbrev pub TookParts : ℕ → Effect → Type 0
TookParts n source = WhereTold source.before source.after (TakesParts n)
