-- What the answers of `read_part` mean.
use Rattle.std.specs.Prelude.{◌≡◌, ℕ, ◌+◌, ◌≤◌, List, [], ◌++◌, length, drop, Result, Ok, Err}
use Rattle.nego_io.specs.Outside.{Rose}
use Rattle.nego_io.specs.Part.{reading, behind, Whole, PastLimit, Unended}
use Rattle.nego_io.specs.declared.part.Part.{Part}
use Rattle.nego_io.specs.declared.part.ReadAnswer.{ReadAnswer}
use Rattle.nego_io.specs.declared.part.ReadAnswer.TheVariants.{ReadFault, TooLong, NoEnd, Memory}

-- At most n bytes are gone from the front.
abbrev pub TakesUpTo : ℕ → List ℕ → List ℕ → Type 0
TakesUpTo n before now = (front : List ℕ) × ((before ≡ front ++ now) × (length front ≤ n))

-- What was taken is from the front, and nothing of what is behind a part.
pub record TakesWithin (limit : ℕ) (before now : List ℕ) : Type 0 where
  pub front : List ℕ
  pub more : List ℕ
  pub taken : before ≡ front ++ now
  pub kept : now ≡ more ++ behind limit before

-- What the answer says of what was left before and what is left now. No two answers but the faults have one cause,
-- so each comes exactly where its cause stands and no fault came before.
abbrev pub Answers : ℕ → Result Part ReadAnswer → List ℕ → List ℕ → Type 0
Answers limit (Ok part) before now = (before ≡ part.bytes ++ now) × (reading limit before ≡ Whole part.bytes now)
Answers limit (Err ReadFault) before now = TakesWithin limit before now
Answers limit (Err TooLong) before now = (reading limit before ≡ PastLimit) × (now ≡ drop (limit + 1) before)
Answers limit (Err (NoEnd line)) before now = (reading limit before ≡ Unended line) × (now ≡ [])
Answers limit (Err Memory) before now = TakesWithin limit before now

-- The count of faults rose where the answer is a fault of the source, and stayed where it is any other.
abbrev pub PartHasCause : Result Part ReadAnswer → ℕ → ℕ → Type 0
PartHasCause (Ok part) before now = now ≡ before
PartHasCause (Err ReadFault) before now = Rose before now
PartHasCause (Err TooLong) before now = now ≡ before
PartHasCause (Err (NoEnd line)) before now = now ≡ before
PartHasCause (Err Memory) before now = now ≡ before
