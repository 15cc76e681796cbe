-- What the private readers promise of their answers.
use Rattle.std.specs.Prelude.{◌≡◌, ℕ, ◌≤◌, Bool, false, List, [], ◌∷◌, length, slice_get, Result, Ok, Err, All, ⊤}
use Rattle.std.specs.Option.{option_map_or}
use Rattle.std.specs.Str.{bytes_eq}
use Rattle.nego_base.specs.declared.fault.Fault.{Fault}
use Rattle.nego_base.specs.declared.fault.ReadFaults.{ReadFaults}
use Rattle.nego_base.specs.declared.fault.ReadFaults.TheVariants as faults
use Rattle.nego_base.specs.declared.line.Line.{Line}
use Rattle.nego_base.specs.LineAnswers.{Fails, FitsLine, onto}
use Rattle.nego_reader.specs.Rows.{Kind, Row}
use Rattle.nego_reader.specs.Reading.{walk}
use Rattle.nego_reader.specs.Table.{IsFirstFault}
use Rattle.nego_reader.specs.Spelling.{Spells}
use Rattle.nego_reader.specs.declared.parsed.Parsed.{Parsed}

-- whether the first line begins with this word
unfoldable pub begins : List ℕ → List Line → Bool
begins text [] = false
begins text (line ∷ lines) = option_map_or (λ word. bytes_eq word.text text) (slice_get line.words 0) false

-- Lines, of which the first may be of these kinds, say these rows, and then what the lines that are left say, of which the
-- first may be of the other kinds.
pub record ReadsTo (kinds : List Kind) (lines : List Line) (rows : List Row) (kinds' : List Kind) (rest : List Line) : Type 0 where
  pub says : (missing : Fault) → walk missing kinds lines ≡ onto rows (walk missing kinds' rest)
  pub fits : All FitsLine rest
  pub shorter : length rest ≤ length lines

-- what is answered, seen as rows and the lines behind them, is what these lines say
abbrev pub Goes : {X : Type 0} → (X → List Row × List Line) → List Kind → List Line → List Kind → Result X ReadFaults → Type 0
Goes view kinds lines kinds' (Ok x) = ReadsTo kinds lines (view x).0 kinds' (view x).1
Goes view kinds lines kinds' (Err e) = (missing : Fault) → Fails e (walk missing kinds lines)

-- where an answer comes that isn't a diagram: the fault is the text's first; want of memory is free
abbrev pub ReadHasCause : ReadFaults → List ℕ → Type 0
ReadHasCause faults.Memory bytes = ⊤
ReadHasCause (faults.Off fault) bytes = IsFirstFault bytes fault

-- a text that is off its grammar spells nothing
abbrev pub SpellsNothing : ReadFaults → List ℕ → Type 0
SpellsNothing faults.Memory bytes = ⊤
SpellsNothing (faults.Off fault) bytes = (p : Parsed) → ¬ (Spells bytes p)
