-- How a text of lines is read by its grammar: a line at a time, by a function that gives the row of a line of a kind or
-- the first of its faults.
use Rattle.std.specs.Prelude.{ℕ, List, [], ◌∷◌, find, slice_get, Result, Ok, Err}
use Rattle.std.specs.Option.{option_map_or}
use Rattle.std.specs.Str.{bytes_eq}
use Rattle.nego_base.specs.declared.fault.FaultKind.TheVariants as kinds
use Rattle.nego_base.specs.declared.fault.Fault.{Fault}
use Rattle.nego_base.specs.declared.line.Word.{Word}
use Rattle.nego_base.specs.declared.line.Line.{Line}
use Rattle.nego_base.specs.Grammar.{at_word, past_line}
use Rattle.nego_base.specs.LineGrammar.{LineGrammar, Demand, Meets, IsFirstUnmet}
use Rattle.nego_base.specs.Results.{◌>>=◌}

-- the word at a place of a line, counted from 0
unfoldable pub word_in : Line → ℕ → Result Word Fault
word_in line i = option_map_or (λ word. Ok word) (slice_get line.words i) (Err (past_line kinds.Count line))

-- what each item gives, or the first fault
unfoldable pub each : {A B : Type 0} → (A → Result B Fault) → List A → Result (List B) Fault
each f [] = Ok []
each f (x ∷ xs) = do
  y ← f x
  ys ← each f xs
  Ok (y ∷ ys)

-- the line meets each of the demands
abbrev pub AreMet : {X : Type 0} → (X → Word → Type 0) → Line → List (Demand X) → Type 0
AreMet Is line [] = Unit {0}
AreMet Is line (demand ∷ demands) = Meets Is line demand × AreMet Is line demands

-- what is read of a line is by these demands: they are met, or its fault is that of the first that isn't
abbrev pub Answers : {X Y : Type 0} → (X → Word → Type 0) → Line → List (Demand X) → Result Y Fault → Type 0
Answers Is line demands (Ok y) = AreMet Is line demands
Answers Is line demands (Err fault) = IsFirstUnmet Is line demands fault

module _ {Known Kind Row Own : Type 0} (G : LineGrammar Known Kind Row Own) (row_of : Known → Kind → Line → Result Row Fault) where
  -- of which kind a line is
  unfoldable pub kind_of_line : Known → Line → Result Kind Fault
  kind_of_line known line = do
    first ← word_in line 0
    option_map_or (λ kind. Ok kind) (find (λ kind. bytes_eq first.text (G.keyword kind)) (G.may_stand known)) (Err (at_word kinds.Word first))

  -- what no line says, where a line of these kinds may stand
  abbrev pub ended : Fault → List Kind → Result (List Row) Fault
  ended missing [] = Ok []
  ended missing (kind ∷ kinds) = Err missing

  -- what the lines say; the fault `missing` is that of a text whose last line is missing
  unfoldable pub walk_lines : Fault → Known → List Line → Result (List Row) Fault
  walk_lines missing known [] = ended missing (G.may_stand known)
  walk_lines missing known (line ∷ lines) = do
    kind ← kind_of_line known line
    row ← row_of known kind line
    rows ← walk_lines missing (G.behind known kind row) lines
    Ok (row ∷ rows)
