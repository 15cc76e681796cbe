-- Texts of lines of words as programs print them: one blank between two words, and a newline behind each line.
use Rattle.std.specs.Prelude.{◌≢◌, ℕ, ◌<◌, ◌≤◌, List, [], ◌∷◌, ◌++◌, length, slice_index, slice_index_or, All}
use Rattle.std.specs.List.{flat_map, join_with_byte}

-- a line, without its newline
abbrev pub printed_line : List (List ℕ) → List ℕ
printed_line words = join_with_byte 32 words

-- a text
unfoldable pub printed : List (List (List ℕ)) → List ℕ
printed texts = flat_map (λ words. printed_line words ++ 10 ∷ []) texts

-- The word has a byte, and each is one from 0x21 to 0x7E.
pub record IsPrintableWord (word : List ℕ) : Type 0 where
  pub filled : 0 < length word
  pub bytes : All (λ b. (33 ≤ b) × (b ≤ 126)) word

-- The line has a word, its first byte isn't `#`, 35, and it has at most 1,024 bytes.
pub record IsPrintable (line : List (List ℕ)) : Type 0 where
  pub filled : 0 < length line
  pub words : All IsPrintableWord line
  pub no_comment : slice_index (slice_index_or line 0 []) 0 ≢ 35
  pub short : length (printed_line line) ≤ 1024

abbrev pub ArePrintable : List (List (List ℕ)) → Type 0
ArePrintable texts = All IsPrintable texts
