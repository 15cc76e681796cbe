-- What the private readers of texts of lines promise of their answers.
use Rattle.std.specs.Prelude.{◌≡◌, ◌+◌, ◌-◌, ◌^◌, ◌<◌, List, ◌++◌, length, Result, Ok, Err, All, ⊤}
use Rattle.nego_base.specs.declared.fault.Fault.{Fault}
use Rattle.nego_base.specs.declared.fault.ReadFaults.{ReadFaults}
use Rattle.nego_base.specs.declared.fault.ReadFaults.TheVariants as faults
use Rattle.nego_base.specs.declared.line.Word.{Word}
use Rattle.nego_base.specs.declared.line.Line.{Line}
use Rattle.nego_base.specs.Results.{◌>>=◌}

-- an answer without a value comes of the fault that is found, or of want of memory
abbrev pub Fails : {Y : Type 0} → ReadFaults → Result Y Fault → Type 0
Fails faults.Memory found = ⊤
Fails (faults.Off fault) found = found ≡ Err fault

-- what is answered, seen so, is what is found
abbrev pub Gives : {X Y : Type 0} → (X → Y) → Result X ReadFaults → Result Y Fault → Type 0
Gives view (Ok x) found = found ≡ Ok (view x)
Gives view (Err e) found = Fails e found

-- the same, where no memory is taken
abbrev pub Tells : {X Y : Type 0} → (X → Y) → Result X Fault → Result Y Fault → Type 0
Tells view (Ok x) found = found ≡ Ok (view x)
Tells view (Err fault) found = found ≡ Err fault

-- each column in the word has 32 bits
abbrev pub FitsWord : Word → Type 0
FitsWord word = word.column + length word.text < 2 ^ 32

-- each column in the line, and the one behind it, has 32 bits
pub record FitsLine (line : Line) : Type 0 where
  pub behind : line.length < 2 ^ 32 - 1
  pub words : All FitsWord line.words

-- items, and then those that are found
abbrev pub onto : {A : Type 0} → List A → Result (List A) Fault → Result (List A) Fault
onto front found = found >>= λ rest. Ok (front ++ rest)
