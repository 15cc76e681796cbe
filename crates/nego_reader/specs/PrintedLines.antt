-- What the private printers put behind a text.
use Rattle.std.specs.Prelude.{ℕ, List, [], ◌∷◌, ◌++◌}
use Rattle.std.specs.List.{flat_map}
use Rattle.nego_base.specs.Printed.{printed_line}
use Rattle.nego_reader.specs.Rows.{Row}
use Rattle.nego_reader.specs.Printing.{row_words}

-- words, with a blank before each
abbrev pub behind_blanks : List (List ℕ) → List ℕ
behind_blanks words = flat_map (λ word. 32 ∷ word) words

-- a line of these words, with its newline
abbrev pub line_text : List (List ℕ) → List ℕ
line_text words = printed_line words ++ 10 ∷ []

-- the lines, each with its newline
abbrev pub row_texts : List Row → List ℕ
row_texts rows = flat_map (λ row. line_text (row_words row)) rows
