-- What a word, a line and the lines of a text say, or their first fault: lines from the first on, and in a line its first
-- word, then how many words there are, then the words from left to right.
use Rattle.std.specs.Prelude.{ℕ, ◌+◌, not, ◌==◌, if◌then◌else◌, List, [], ◌∷◌, length, take, drop, position, unwrap_or, Option, Some, None, Result, Ok, Err, codes}
use Rattle.std.specs.List.{list_any}
use Rattle.std.specs.Option.{option_map_or, option_and_then}
use Rattle.std.specs.Str.{bytes_eq}
use Rattle.nego_base.specs.declared.op.Op.{Op}
use Rattle.nego_base.specs.declared.op.Op.TheVariants.{Eq, Ne, Lt, Le, Gt, Ge}
use Rattle.nego_base.specs.declared.fault.FaultKind.TheVariants as fault_kinds
use Rattle.nego_base.specs.declared.fault.Fault.{Fault}
use Rattle.nego_base.specs.declared.line.Word.{Word}
use Rattle.nego_base.specs.declared.line.Line.{Line}
use Rattle.nego_base.specs.Name.{is_name, is_name_byte}
use Rattle.nego_base.specs.Number.{number_of}
use Rattle.nego_base.specs.Results.{◌>>=◌}
use Rattle.nego_base.specs.Scan.{scanned, count_lines}
use Rattle.nego_base.specs.LineGrammar.{missing_end}
use Rattle.nego_base.specs.LineWalk.{word_in, each, kind_of_line, walk_lines}
use Rattle.nego_reader.specs.Table.{is_colon, diagram_lines}
use Rattle.nego_base.specs.Grammar.{at_word, least_words, exact_words, name_word, number_word}
use Rattle.nego_reader.specs.declared.parsed.PAgent.{PAgent}
use Rattle.nego_reader.specs.declared.parsed.PNext.{PNext}
use Rattle.nego_reader.specs.declared.parsed.PCase.{PCase}
use Rattle.nego_reader.specs.declared.parsed.PTest.{PTest}
use Rattle.nego_reader.specs.declared.parsed.PRight.{PRight}
use Rattle.nego_reader.specs.declared.parsed.PRight.TheVariants as rights
use Rattle.nego_reader.specs.declared.parsed.PSet.{PSet}
use Rattle.nego_reader.specs.declared.parsed.PTerm.{PTerm}
use Rattle.nego_reader.specs.declared.parsed.PTerm.TheVariants as terms
use Rattle.nego_reader.specs.Rows.{Kind, Nego, Agent, Atom, Out, Case, Next, First, Last, End, Row, HeaderRow, AgentRow, AtomRow, OutRow, CaseRow, NextRow, FirstRow, LastRow, EndRow}

-- ---- in a word

-- how many bytes stand before the first that may not stand in a name
unfoldable pub name_end : List ℕ → ℕ
name_end bytes = unwrap_or (position (λ b. not (is_name_byte b)) bytes) (length bytes)

-- how many bytes stand before the first that may stand in a name
unfoldable pub sign_end : List ℕ → ℕ
sign_end bytes = unwrap_or (position is_name_byte bytes) (length bytes)

-- bytes of a word that stand in it from place i on, as a word
abbrev pub piece : Word → ℕ → List ℕ → Word
piece word i bytes = record { line = word.line; column = word.column + i; text = bytes }

-- a value that a word gives, if it is on the grammar of cases
abbrev pub in_case : {A : Type 0} → Word → Option A → Result A Fault
in_case word o = option_map_or (λ x. Ok x) o (Err (at_word fault_kinds.Case word))

unfoldable pub op_of : List ℕ → Option Op
op_of bytes =
    if bytes_eq bytes (codes "=") then Some Eq else (if bytes_eq bytes (codes "!=") then Some Ne else (if bytes_eq bytes (codes "<") then Some Lt else
    (if bytes_eq bytes (codes "<=") then Some Le else (if bytes_eq bytes (codes ">") then Some Gt else (if bytes_eq bytes (codes ">=") then Some Ge else None)))))

-- the name that the bytes of a word from place i on are
unfoldable pub name_at : Word → ℕ → List ℕ → Result Word Fault
name_at word i bytes = if is_name bytes then Ok (piece word i bytes) else Err (at_word fault_kinds.Case word)

-- the right side that the bytes of a word from place i on are
unfoldable pub right_at : Word → ℕ → List ℕ → Result PRight Fault
right_at word i bytes = option_map_or (λ n. Ok (rights.Number n)) (number_of bytes) (name_at word i bytes >>= λ name. Ok (rights.Name name))

-- the comparison that a word is, whose name and sign have so many bytes
unfoldable pub test_at : Word → ℕ → ℕ → Result PTest Fault
test_at word n m = do
  left ← name_at word 0 (take n word.text)
  op ← in_case word (op_of (take m (drop n word.text)))
  right ← right_at word (n + m) (drop m (drop n word.text))
  Ok (record { left = left; op = op; right = right })

-- the comparison that a word is
unfoldable pub test_of : Word → Result PTest Fault
test_of word = test_at word (name_end word.text) (sign_end (drop (name_end word.text) word.text))

-- a name, and what stands behind it: nothing, or a sign and a number
unfoldable pub sum_of : Word → Word → List ℕ → Result PTerm Fault
sum_of word name [] = Ok (terms.Plus name 0)
sum_of word name (sign ∷ digits) = do
  n ← in_case word (number_of digits)
  if sign == 43 then Ok (terms.Plus name n) else (if sign == 45 then Ok (terms.Minus name n) else Err (at_word fault_kinds.Case word))

-- the name and what stands behind it
unfoldable pub sum_at : Word → ℕ → List ℕ → Result PTerm Fault
sum_at word i bytes = do
  name ← name_at word i (take (name_end bytes) bytes)
  sum_of word name (drop (name_end bytes) bytes)

-- what is assigned by the bytes of a word from place i on
unfoldable pub term_at : Word → ℕ → List ℕ → Result PTerm Fault
term_at word i bytes = if bytes_eq bytes (codes "*") then Ok terms.Any else option_map_or (λ n. Ok (terms.Number n)) (number_of bytes) (sum_at word i bytes)

-- the bytes behind this text
unfoldable pub behind : List ℕ → List ℕ → Option (List ℕ)
behind text bytes = if bytes_eq (take (length text) bytes) text then Some (drop (length text) bytes) else None

-- the assignment that a word is
unfoldable pub set_of : Word → Result PSet Fault
set_of word = do
  agent ← name_at word 0 (take (name_end word.text) word.text)
  bytes ← in_case word (behind (codes ":=") (drop (name_end word.text) word.text))
  term ← term_at word (name_end word.text + 2) bytes
  Ok (record { agent = agent; term = term })

-- ---- in a line

-- the name that a word is
unfoldable pub name_of : Word → Result Word Fault
name_of word = do
  named ← name_word word
  Ok word

-- the name at a place of a line
unfoldable pub name_in : Line → ℕ → Result Word Fault
name_in line i = do
  word ← word_in line i
  name_of word

-- the first line is of version 1
unfoldable pub header_in : Line → Result (Unit {0}) Fault
header_in line = do
  counted ← exact_words 2 line
  version ← word_in line 1
  if bytes_eq version.text (codes "1") then Ok tt else Err (at_word fault_kinds.Version version)

unfoldable pub agent_in : Line → Result PAgent Fault
agent_in line = do
  counted ← exact_words 3 line
  name ← name_in line 1
  word ← word_in line 2
  size ← number_word word
  Ok (record { name = name; size = size })

-- the name in a line of two words
unfoldable pub named_in : Line → Result Word Fault
named_in line = do
  counted ← exact_words 2 line
  name_in line 1

-- the name in a line, and the names behind it, where it has at least n words
unfoldable pub names_in : ℕ → Line → Result (Word × List Word) Fault
names_in n line = do
  counted ← least_words n line
  name ← name_in line 1
  names ← each name_of (drop 2 line.words)
  Ok (name, names)

-- the next atom in a line, and its agents
unfoldable pub next_in : Line → Result PNext Fault
next_in line = do
  names ← names_in 3 line
  Ok (record { atom = names.0; agents = names.1 })

-- the words before and behind the one colon
unfoldable pub sides_of : List Word → Option (List Word × List Word)
sides_of words = option_and_then (λ n. if list_any is_colon (drop (n + 1) words) then None else Some (take n words, drop (n + 1) words)) (position is_colon words)

unfoldable pub case_in : Line → Result PCase Fault
case_in line = do
  counted ← least_words 2 line
  first ← word_in line 0
  sides ← in_case first (sides_of (drop 1 line.words))
  tests ← each test_of sides.0
  sets ← each set_of sides.1
  Ok (record { tests = tests; sets = sets })

-- what a line of a kind says
unfoldable pub row_of : Kind → Line → Result Row Fault
row_of Nego line = header_in line >>= λ _. Ok HeaderRow
row_of Agent line = agent_in line >>= λ agent. Ok (AgentRow agent)
row_of Atom line = names_in 2 line >>= λ names. Ok (AtomRow names.0 names.1)
row_of Out line = named_in line >>= λ name. Ok (OutRow name)
row_of Case line = case_in line >>= λ c. Ok (CaseRow c)
row_of Next line = next_in line >>= λ next. Ok (NextRow next)
row_of First line = named_in line >>= λ name. Ok (FirstRow name)
row_of Last line = named_in line >>= λ name. Ok (LastRow name)
row_of End line = exact_words 1 line >>= λ _. Ok EndRow

-- ---- in a text

-- what a line of a kind says, whatever may stand there
abbrev pub row_in : List Kind → Kind → Line → Result Row Fault
row_in kinds kind line = row_of kind line

-- of which kind a line is, where these kinds may stand
abbrev pub kind_in : List Kind → Line → Result Kind Fault
kind_in kinds line = kind_of_line diagram_lines row_in kinds line

-- what the lines say, of which the first may be of these kinds
abbrev pub walk : Fault → List Kind → List Line → Result (List Row) Fault
walk missing kinds lines = walk_lines diagram_lines row_in missing kinds lines

-- the first line, whose first word must be this text, and the lines behind it
unfoldable pub line_at : List ℕ → Fault → List Line → Result (Line × List Line) Fault
line_at text missing [] = Err missing
line_at text missing (line ∷ lines) = do
  first ← word_in line 0
  if bytes_eq first.text text then Ok (line, lines) else Err (at_word fault_kinds.Word first)

-- the lines behind the header
unfoldable pub header_at : Fault → List Line → Result (List Line) Fault
header_at missing lines = do
  line ← line_at (codes "nego") missing lines
  header ← header_in line.0
  Ok line.1

-- that there is no line
unfoldable pub nothing_at : List Line → Result (Unit {0}) Fault
nothing_at [] = Ok tt
nothing_at (line ∷ lines) = do
  first ← word_in line 0
  Err (at_word fault_kinds.Word first)

-- that the line `end` comes, and no other behind it
unfoldable pub end_at : Fault → List Line → Result (Unit {0}) Fault
end_at missing lines = do
  line ← line_at (codes "end") missing lines
  ended ← exact_words 1 line.0
  over ← nothing_at line.1
  Ok tt

-- the name of the last atom, behind which the text ends
unfoldable pub last_at : Fault → List Line → Result Word Fault
last_at missing lines = do
  line ← line_at (codes "last") missing lines
  last ← named_in line.0
  ended ← end_at missing line.1
  Ok last

-- the names of the first and of the last atom, in the last lines
unfoldable pub ends_at : Fault → List Line → Result (Word × Word) Fault
ends_at missing lines = do
  line ← line_at (codes "first") missing lines
  first ← named_in line.0
  last ← last_at missing line.1
  Ok (first, last)

-- what the lines of a text say, or the first fault among them
abbrev pub said : List ℕ → Result (List Row) Fault
said bytes = walk (missing_end (count_lines bytes)) (Nego ∷ []) (scanned bytes)
