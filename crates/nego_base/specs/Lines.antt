-- Lines and words of a text, which is a list of bytes. The newline is 10 and the carriage return 13.
-- The blanks are the space, 32, and the tab, 9.
use Rattle.std.specs.Prelude.{ℕ, Bool, true, ◌||◌, ◌==◌, List, [], ◌∷◌, if◌then◌else◌, bytes_eq}
use Rattle.std.specs.List.{onto_first}

abbrev pub is_newline : ℕ → Bool
is_newline b = b == 10

-- The lines of a text, each with its newline. The last may lack one, and a newline at the very end begins no line.
abbrev pub lines : List ℕ → List (List ℕ)
lines [] = []
lines (b ∷ bs) = if is_newline b then (b ∷ []) ∷ lines bs else onto_first b (lines bs)

-- whether this is what ends a line: a newline, with one carriage return before it or none
abbrev pub is_line_end : List ℕ → Bool
is_line_end bs = bytes_eq bs (10 ∷ []) || bytes_eq bs (13 ∷ 10 ∷ [])

-- A line without its end. A line that lacks its newline has no end, so a carriage return there stays.
abbrev pub without_end : List ℕ → List ℕ
without_end [] = []
without_end (b ∷ bs) = if is_line_end (b ∷ bs) then [] else b ∷ without_end bs

abbrev pub is_blank : ℕ → Bool
is_blank b = b == 32 || b == 9

-- whether no word goes on here: the text is at its end, or a blank comes
abbrev pub is_word_end : List ℕ → Bool
is_word_end [] = true
is_word_end (b ∷ bs) = is_blank b

-- The words of a text: its longest runs of bytes that aren't blanks.
abbrev pub words : List ℕ → List (List ℕ)
words [] = []
words (b ∷ bs) =
    if is_blank b then words bs else (if is_word_end bs then (b ∷ []) ∷ words bs else onto_first b (words bs))
