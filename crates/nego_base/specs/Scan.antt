-- The lines of a text with their words and places, and what no text of lines may hold. Lines and columns count from 1;
-- a column is the place of a byte in its line.
use Rattle.std.specs.Prelude.{◌≡◌, ℕ, ◌+◌, ◌-◌, ◌≤◌, Bool, false, not, ◌||◌, ◌&&◌, ◌==◌, nat_lt, nat_le, if◌then◌else◌, List, [], ◌∷◌, ◌++◌, length, take, drop, find, position, Option, Some, None, ⊤}
use Rattle.std.specs.List.{list_all}
use Rattle.std.specs.Option.{option_or, option_map_or}
use Rattle.nego_base.specs.declared.fault.FaultKind.{FaultKind}
use Rattle.nego_base.specs.declared.fault.FaultKind.TheVariants as kinds
use Rattle.nego_base.specs.declared.fault.Fault.{Fault}
use Rattle.nego_base.specs.declared.fault.ScanAnswer.{ScanAnswer}
use Rattle.nego_base.specs.declared.fault.ScanAnswer.TheVariants as scan_answers
use Rattle.nego_base.specs.declared.fault.ReadFaults.{ReadFaults}
use Rattle.nego_base.specs.declared.fault.ReadFaults.TheVariants as read_faults
use Rattle.nego_base.specs.declared.line.Word.{Word}
use Rattle.nego_base.specs.declared.line.Line.{Line}
use Rattle.nego_base.specs.Lines.{lines, without_end, is_blank, is_word_end}

-- whether a line is a comment: its first byte that isn't a blank is `#`, 35
abbrev pub is_comment : List ℕ → Bool
is_comment line = option_map_or (λ b. b == 35) (find (λ b. not (is_blank b)) line) false

-- whether a byte may stand in a line that isn't a comment: a blank, or a byte from 0x21 to 0x7E
abbrev pub may_stand : ℕ → Bool
may_stand b = is_blank b || (nat_le 33 b && nat_le b 126)

-- the most bytes of a line, without its end
abbrev pub max_line : ℕ
max_line = 1024

-- where, from 0, the first byte stands that may not stand there, among as many as a line may have
abbrev pub bad_byte : List ℕ → Option ℕ
bad_byte line = if is_comment line then None else position (λ b. not (may_stand b)) (take max_line line)

-- a fault at a place
abbrev pub fault_at : ℕ → ℕ → FaultKind → Fault
fault_at number column kind = record { line = number; column = column; kind = kind }

-- the fault of a line that has too many bytes
abbrev pub long_fault : ℕ → List ℕ → Option Fault
long_fault number line = if nat_lt max_line (length line) then Some (fault_at number (max_line + 1) kinds.Line) else None

-- the first fault of the line of this number, which is without its end
unfoldable pub line_fault : ℕ → List ℕ → Option Fault
line_fault number line = option_map_or (λ i. Some (fault_at number (i + 1) kinds.Byte)) (bad_byte line) (long_fault number line)

-- the fault of the first line that has one, where the first has this number
unfoldable pub faults_from : ℕ → List (List ℕ) → Option Fault
faults_from number [] = None
faults_from number (line ∷ rest) = option_or (line_fault number (without_end line)) (faults_from (number + 1) rest)

-- the first fault of a text's lines and bytes
unfoldable pub scan_fault : List ℕ → Option Fault
scan_fault bytes = faults_from 1 (lines bytes)

-- the word that has these bytes, at its place
abbrev pub word_at : ℕ → ℕ → List ℕ → Word
word_at number column text = record { line = number; column = column; text = text }

-- the words from a column on, where this byte stands there and these words begin with the next byte
abbrev pub onto_word : ℕ → ℕ → ℕ → List Word → List Word
onto_word number column b [] = word_at number column (b ∷ []) ∷ []
onto_word number column b (w ∷ ws) = word_at number column (b ∷ w.text) ∷ ws

-- The words of the line of this number, from a column on: its longest runs of bytes that aren't blanks.
unfoldable pub words_at : ℕ → ℕ → List ℕ → List Word
words_at number column [] = []
words_at number column (b ∷ bs) =
    if is_blank b then words_at number (column + 1) bs else (if is_word_end bs then word_at number column (b ∷ []) ∷ words_at number (column + 1) bs else onto_word number column b (words_at number (column + 1) bs))

-- The word stands in the line of this number, at its column, in what is left of the line from a column on.
pub record StandsIn (number column : ℕ) (bytes : List ℕ) (word : Word) : Type 0 where
  pub line : word.line ≡ number
  pub from : column ≤ word.column
  pub there : take (length word.text) (drop (word.column - column) bytes) ≡ word.text
  pub within : word.column + length word.text ≤ column + length bytes

-- whether a line is passed over: it is blank, or a comment
abbrev pub is_passed : List ℕ → Bool
is_passed line = list_all is_blank line || is_comment line

-- the line of this number, with its words
abbrev pub line_at : ℕ → List ℕ → Line
line_at number line = record { number = number; length = length line; words = words_at number 1 line }

-- a line, unless it is passed over
abbrev pub line_if_kept : ℕ → List ℕ → List Line
line_if_kept number line = if is_passed line then [] else line_at number line ∷ []

-- the lines that aren't passed over, where the first of these has this number
unfoldable pub scanned_from : ℕ → List (List ℕ) → List Line
scanned_from number [] = []
scanned_from number (line ∷ rest) = line_if_kept number (without_end line) ++ scanned_from (number + 1) rest

-- the lines of a text, but for blank ones and comments
unfoldable pub scanned : List ℕ → List Line
scanned bytes = scanned_from 1 (lines bytes)

-- how many lines a text has
unfoldable pub count_lines : List ℕ → ℕ
count_lines bytes = length (lines bytes)

-- where an answer comes that isn't the lines
abbrev pub ScanHasCause : ScanAnswer → List ℕ → Type 0
ScanHasCause (scan_answers.Off fault) bytes = scan_fault bytes ≡ Some fault
ScanHasCause scan_answers.Memory bytes = ⊤

-- the answer of a reader where the text wasn't scanned
abbrev pub read_fault_of : ScanAnswer → ReadFaults
read_fault_of (scan_answers.Off fault) = read_faults.Off fault
read_fault_of scan_answers.Memory = read_faults.Memory
