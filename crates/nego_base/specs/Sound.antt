-- What it means that a text of lines has a fault, or none, said of its lines and bytes.
use Rattle.std.specs.Prelude.{◌≡◌, ℕ, ◌+◌, ◌<◌, Bool, true, false, ◌||◌, ◌&&◌, nat_le, List, ◌∷◌, ◌++◌, length, take, slice_index}
use Rattle.std.specs.List.{list_all}
use Rattle.nego_base.specs.declared.fault.FaultKind.{FaultKind}
use Rattle.nego_base.specs.declared.fault.FaultKind.TheVariants as kinds
use Rattle.nego_base.specs.declared.fault.Fault.{Fault}
use Rattle.nego_base.specs.Lines.{without_end}
use Rattle.nego_base.specs.Scan.{is_comment, may_stand}

-- whether a line, with its end, has at most 1,024 bytes without it, and none that may not stand there
abbrev pub is_sound_line : List ℕ → Bool
is_sound_line line = nat_le (length (without_end line)) 1024 && (is_comment (without_end line) || list_all may_stand (without_end line))

-- The first byte that may not stand in the line, which isn't a comment, has this column, which is within 1,024.
pub record IsBadByte (line : List ℕ) (column : ℕ) : Type 0 where
  pub place : ℕ
  pub is : column ≡ place + 1
  pub within : place < 1024
  pub there : place < length line
  pub no_comment : is_comment line ≡ false
  pub before : list_all may_stand (take place line) ≡ true
  pub off : may_stand (slice_index line place) ≡ false

-- The line has more than 1,024 bytes, and each of these may stand there, or it is a comment. The column is 1,025.
pub record IsLong (line : List ℕ) (column : ℕ) : Type 0 where
  pub is : column ≡ 1025
  pub long : 1024 < length line
  pub before : (is_comment line || list_all may_stand (take 1024 line)) ≡ true

-- what a fault of a kind is, at a column of a line without its end
abbrev pub IsLineFault : FaultKind → List ℕ → ℕ → Type 0
IsLineFault kinds.Byte line column = IsBadByte line column
IsLineFault kinds.Line line column = IsLong line column
IsLineFault _ line column = ⊥

-- The fault is that of a line of the text, and the lines before it are sound.
pub record IsFirstFault (text : List (List ℕ)) (number : ℕ) (fault : Fault) : Type 0 where
  pub front : List (List ℕ)
  pub line : List ℕ
  pub back : List (List ℕ)
  pub whole : text ≡ front ++ line ∷ back
  pub earlier : list_all is_sound_line front ≡ true
  pub line_is : fault.line ≡ number + length front
  pub here : IsLineFault fault.kind (without_end line) fault.column
