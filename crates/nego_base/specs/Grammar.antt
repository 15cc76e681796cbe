-- What readers of texts of lines ask of a line and of a word, and the fault where it isn't so.
use Rattle.std.specs.Prelude.{ℕ, ◌+◌, nat_lt, if◌then◌else◌, List, length, slice_get, Result, Ok, Err}
use Rattle.std.specs.Option.{option_map_or}
use Rattle.std.specs.Str.{bytes_eq}
use Rattle.nego_base.specs.declared.fault.FaultKind.{FaultKind}
use Rattle.nego_base.specs.declared.fault.FaultKind.TheVariants as kinds
use Rattle.nego_base.specs.declared.fault.Fault.{Fault}
use Rattle.nego_base.specs.declared.line.Word.{Word}
use Rattle.nego_base.specs.declared.line.Line.{Line}
use Rattle.nego_base.specs.Name.{is_name}
use Rattle.nego_base.specs.Number.{number_of}

-- a fault at a word
abbrev pub at_word : FaultKind → Word → Fault
at_word kind word = record { line = word.line; column = word.column; kind = kind }

-- a fault behind the last byte of a line
abbrev pub past_line : FaultKind → Line → Fault
past_line kind line = record { line = line.number; column = line.length + 1; kind = kind }

-- that a line has at least n words
unfoldable pub least_words : ℕ → Line → Result (Unit {0}) Fault
least_words n line = if nat_lt (length line.words) n then Err (past_line kinds.Count line) else Ok tt

-- that a line has n words and no more
unfoldable pub exact_words : ℕ → Line → Result (Unit {0}) Fault
exact_words n line = option_map_or (λ word. Err (at_word kinds.Count word)) (slice_get line.words n) (least_words n line)

-- that a word is this text
unfoldable pub text_word : List ℕ → Word → Result (Unit {0}) Fault
text_word text word = if bytes_eq word.text text then Ok tt else Err (at_word kinds.Word word)

-- that a word is a name
unfoldable pub name_word : Word → Result (Unit {0}) Fault
name_word word = if is_name word.text then Ok tt else Err (at_word kinds.Name word)

-- the number that a word is
unfoldable pub number_word : Word → Result ℕ Fault
number_word word = option_map_or (λ n. Ok n) (number_of word.text) (Err (at_word kinds.Number word))
