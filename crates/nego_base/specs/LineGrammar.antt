-- The grammar of a text of lines: which kinds of lines may stand where, and what is asked of each. A grammar is a table of
-- its kinds of lines; what the first fault of a text is, is said here once for all of them.
use Rattle.std.specs.Prelude.{◌≡◌, ◌≢◌, ◌⊎◌, ℕ, ◌+◌, ◌≤◌, IsTrue, List, [], ◌∷◌, ◌++◌, length, take, drop, slice_get, All, decimal, Some, None}
use Rattle.std.specs.List.{Contains}
use Rattle.std.specs.Option.{option_map_or}
use Rattle.nego_base.specs.declared.fault.FaultKind.{FaultKind}
use Rattle.nego_base.specs.declared.fault.FaultKind.TheVariants as kinds
use Rattle.nego_base.specs.declared.fault.Fault.{Fault}
use Rattle.nego_base.specs.declared.line.Word.{Word}
use Rattle.nego_base.specs.declared.line.Line.{Line}
use Rattle.nego_base.specs.Name.{is_name}
use Rattle.nego_base.specs.Grammar.{at_word, past_line}
use Rattle.nego_base.specs.Scan.{scan_fault, scanned, count_lines}

-- ---- what is asked of a line

-- the word is a name
abbrev pub IsNameWord : Word → Type 0
IsNameWord word = IsTrue (is_name word.text)

-- the bytes are the number, which has six digits at most
abbrev pub IsNumeral : List ℕ → ℕ → Type 0
IsNumeral bytes n = (bytes ≡ decimal n) × (n ≤ 999999)

-- What a line may be asked: so many words, at least so many, that a word is this version, a name or a number, or what
-- one grammar alone asks of a word, whose fault is of this kind.
pub data Demand (X : Type 0) : Type 0 where
  Words : ℕ → Demand X
  LeastWords : ℕ → Demand X
  Version : List ℕ → Word → Demand X
  Name : Word → Demand X
  Number : Word → Demand X
  Own : X → FaultKind → Word → Demand X

-- the line is as the demand asks, where this is when a word is as the grammar alone asks
abbrev pub Meets : {X : Type 0} → (X → Word → Type 0) → Line → Demand X → Type 0
Meets Is line (Words n) = length line.words ≡ n
Meets Is line (LeastWords n) = n ≤ length line.words
Meets Is line (Version text word) = word.text ≡ text
Meets Is line (Name word) = IsNameWord word
Meets Is line (Number word) = (n : ℕ) × IsNumeral word.text n
Meets Is line (Own own kind word) = Is own word

-- the fault of a line that isn't as the demand asks; that of too many words is at the first too many
abbrev pub unmet : {X : Type 0} → Line → Demand X → Fault
unmet line (Words n) = option_map_or (at_word kinds.Count) (slice_get line.words n) (past_line kinds.Count line)
unmet line (LeastWords n) = past_line kinds.Count line
unmet line (Version text word) = at_word kinds.Version word
unmet line (Name word) = at_word kinds.Name word
unmet line (Number word) = at_word kinds.Number word
unmet line (Own own kind word) = at_word kind word

-- the fault is that of the first demand that the line doesn't meet
abbrev pub IsFirstUnmet : {X : Type 0} → (X → Word → Type 0) → Line → List (Demand X) → Fault → Type 0
IsFirstUnmet Is line [] fault = ⊥
IsFirstUnmet Is line (demand ∷ demands) fault = ((¬ Meets Is line demand) × (fault ≡ unmet line demand)) ⊎ (Meets Is line demand × IsFirstUnmet Is line demands fault)

-- the word of a line at a place, from 0, if it is there
abbrev pub word_number : ℕ → Line → List Word
word_number i line = take 1 (drop i line.words)

-- the fault of a text of so many lines whose last line is missing: on the line behind them
abbrev pub missing_end : ℕ → Fault
missing_end count = record { line = count + 1; column = 1; kind = kinds.Word }

-- ---- what may stand in a text

-- A grammar: what is known before the first line; of which kinds the next line may be, by what is known of the lines
-- before it, where the text ends if it may be of none; the first word of each kind; what a line of a kind is asked; when a
-- word is as this grammar alone asks; which row a line says; and of each row its kind, and what is known behind it.
pub record LineGrammar (Known Kind Row Own : Type 0) : Type 1 where
  pub begin : Known
  pub may_stand : Known → List Kind
  pub keyword : Kind → List ℕ
  pub demands : Known → Kind → Line → List (Demand Own)
  pub Is : Own → Word → Type 0
  pub Says : Known → Line → Row → Type 0
  pub kind_of : Row → Kind
  pub behind : Known → Kind → Row → Known

module _ {Known Kind Row Own : Type 0} (G : LineGrammar Known Kind Row Own) where
  -- what is known behind a row, and behind several
  abbrev pub behind_row : Known → Row → Known
  behind_row known row = G.behind known (G.kind_of row) row

  abbrev pub behind_rows : Known → List Row → Known
  behind_rows known [] = known
  behind_rows known (row ∷ rows) = behind_rows (behind_row known row) rows

  -- the lines say these rows in turn, each of a kind that may stand there
  abbrev pub Say : Known → List Line → List Row → Type 0
  Say known [] [] = Unit {0}
  Say known (line ∷ lines) (row ∷ rows) = Contains (G.may_stand known) (G.kind_of row) × G.Says known line row × Say (behind_row known row) lines rows
  Say known _ _ = ⊥

  -- the line is of a kind that may stand there, and the fault is that of the first demand that it doesn't meet
  abbrev pub FallsShort : Known → Line → Word → Fault → Type 0
  FallsShort known line first fault = (kind : Kind) × Contains (G.may_stand known) kind × (first.text ≡ G.keyword kind) × IsFirstUnmet G.Is line (G.demands known kind line) fault

  -- no line that may stand there begins with the word, and the fault is at it
  abbrev pub MayNotStand : Known → Word → Fault → Type 0
  MayNotStand known first fault = All (λ kind. first.text ≢ G.keyword kind) (G.may_stand known) × (fault ≡ at_word kinds.Word first)

  -- the fault of the first of these lines: its first word may not stand there, or it falls short; or no line is left where
  -- one must stand, and the fault is the one of a text without its last line
  abbrev pub IsFaultHere : Fault → Known → List Line → Fault → Type 0
  IsFaultHere missing known [] fault = (G.may_stand known ≢ []) × (fault ≡ missing)
  IsFaultHere missing known (line ∷ lines) fault = (first : Word) × (slice_get line.words 0 ≡ Some first) × (MayNotStand known first fault ⊎ FallsShort known line first fault)

  -- The lines before the fault say rows of the grammar, and it is the fault of the line behind them, or there is none.
  pub record IsFirstAmong (missing : Fault) (known : Known) (lines : List Line) (fault : Fault) : Type 0 where
    pub before : List Line
    pub rows : List Row
    pub left : List Line
    pub parts : lines ≡ before ++ left
    pub say : Say known before rows
    pub here : IsFaultHere missing (behind_rows known rows) left fault

  -- the fault is the text's first: of its lines and bytes, and where these may stand of what its lines say
  abbrev pub IsFirstFaultOf : List ℕ → Fault → Type 0
  IsFirstFaultOf bytes fault = (scan_fault bytes ≡ Some fault) ⊎ ((scan_fault bytes ≡ None) × IsFirstAmong (missing_end (count_lines bytes)) G.begin (scanned bytes) fault)

  -- The lines and bytes of the text may stand, and its lines say these rows, behind which the text ends.
  pub record IsTextOf (bytes : List ℕ) (rows : List Row) : Type 0 where
    pub scans : scan_fault bytes ≡ None
    pub say : Say G.begin (scanned bytes) rows
    pub ends : G.may_stand (behind_rows G.begin rows) ≡ []
