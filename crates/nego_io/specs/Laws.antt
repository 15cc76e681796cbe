-- What lines, words and parts are, as laws that say it anew.
use Rattle.std.specs.Prelude.{◌≡◌, ℕ, ◌+◌, ◌<◌, ◌≤◌, Bool, true, false, ◌↔◌, List, [], ◌∷◌, ◌++◌, length, Some}
use Rattle.std.specs.List.{concat, list_any}
use Rattle.nego_base.specs.Lines.{lines}
use Rattle.nego_io.specs.Part.{is_end_line, part_of, newlines, reading, Whole, PastLimit, Unended}

-- The input begins with this part and goes on with what is left. The part is whole lines of the input; its last line
-- is an end line, and no other is.
pub record IsPart (limit : ℕ) (input part left : List ℕ) : Type 0 where
  pub joined : input ≡ part ++ left
  pub fits : length part ≤ limit
  pub whole : lines input ≡ lines part ++ lines left
  pub ends : (front : List (List ℕ)) × ((last : List ℕ) × ((lines part ≡ front ++ last ∷ []) × (list_any is_end_line front ≡ false) × (is_end_line last ≡ true)))

-- The input is longer than the limit, and so are its lines up to each end line.
pub record IsPastLimit (limit : ℕ) (input : List ℕ) : Type 0 where
  pub long : limit < length input
  pub none : (front : List (List ℕ)) (line : List ℕ) (back : List (List ℕ)) → lines input ≡ (front ++ line ∷ []) ++ back → is_end_line line ≡ true → limit < length (concat (front ++ line ∷ []))

-- The input is within the limit and has no end line. The line is one more than its newlines.
pub record IsUnended (limit : ℕ) (input : List ℕ) (line : ℕ) : Type 0 where
  pub fits : length input ≤ limit
  pub none : list_any is_end_line (lines input) ≡ false
  pub counted : line ≡ 1 + newlines input

-- The text is whole lines, the last with its newline too. The last is an end line, and no other is.
pub record IsClosedPart (text : List ℕ) : Type 0 where
  pub front : List (List ℕ)
  pub body : List ℕ
  pub split : lines text ≡ front ++ (body ++ 10 ∷ []) ∷ []
  pub none : list_any is_end_line front ≡ false
  pub ends : is_end_line (body ++ 10 ∷ []) ≡ true

abbrev pub ClosedPartsStand : Type 0
ClosedPartsStand = (text rest : List ℕ) → IsClosedPart text → part_of (text ++ rest) ≡ Some text

abbrev pub PartsAreFound : Type 0
PartsAreFound = (limit : ℕ) (input part left : List ℕ) → (reading limit input ≡ Whole part left) ↔ IsPart limit input part left

abbrev pub PastLimitIsFound : Type 0
PastLimitIsFound = (limit : ℕ) (input : List ℕ) → (reading limit input ≡ PastLimit) ↔ IsPastLimit limit input

abbrev pub UnendedIsFound : Type 0
UnendedIsFound = (limit : ℕ) (input : List ℕ) (line : ℕ) → (reading limit input ≡ Unended line) ↔ IsUnended limit input line

-- No byte passes the test.
abbrev pub HasNo : (ℕ → Bool) → List ℕ → Type 0
HasNo test bytes = list_any test bytes ≡ false
