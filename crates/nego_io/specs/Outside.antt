-- What a call on an object of the outside leaves of its count of faults and of the bytes that it tells.
use Rattle.std.specs.Prelude.{◌≡◌, ◌≢◌, ℕ, ◌+◌, ◌-◌, ◌^◌, ◌≤◌, min, List, [], ◌++◌, IfOk, OnErr, Option, Some, None, Result}

-- the number after n in a count of 64 bits, which stays at its last value
abbrev pub next_count : ℕ → ℕ
next_count n = min (n + 1) (2 ^ 64 - 1)

-- The count rose, or stands at its last value.
abbrev pub Rose : ℕ → ℕ → Type 0
Rose before now = next_count before ≤ now

-- The count doesn't fall: it stays where the answer is Ok, and rises where it is an error.
pub record HasCause {T E : Type 0} (before now : ℕ) (result : Result T E) : Type 0 where
  pub later : before ≤ now
  pub stayed : IfOk result (λ _. now ≡ before)
  pub failed : OnErr result (Rose before now)

-- The count doesn't fall: it stays where some of the piece was put, or it is empty, and rises where nothing of a piece
-- that isn't empty was put, or the answer is an error.
pub record PutHasCause {E : Type 0} (piece : List ℕ) (before now : ℕ) (result : Result ℕ E) : Type 0 where
  pub later : before ≤ now
  pub stayed : IfOk result (λ n. (n ≡ 0 → piece ≡ []) → now ≡ before)
  pub nothing : IfOk result (λ n. n ≡ 0 → piece ≢ [] → Rose before now)
  pub failed : OnErr result (Rose before now)

-- Where an object tells after a call, it told before it, and what it told before and after has P.
abbrev pub WhereTold : Option (List ℕ) → Option (List ℕ) → (List ℕ → List ℕ → Type 0) → Type 0
WhereTold old None P = Unit {0}
WhereTold None (Some now) P = ⊥
WhereTold (Some before) (Some now) P = P before now

-- These bytes were taken from the front of what was left.
abbrev pub Takes : List ℕ → Option (List ℕ) → Option (List ℕ) → Type 0
Takes bytes old new = WhereTold old new (λ before now. before ≡ bytes ++ now)

-- These bytes were put behind what was taken before.
abbrev pub Puts : List ℕ → Option (List ℕ) → Option (List ℕ) → Type 0
Puts bytes old new = WhereTold old new (λ before now. now ≡ before ++ bytes)

-- A front of these bytes, but not all, was put behind what was taken before.
abbrev pub PutsFront : List ℕ → Option (List ℕ) → Option (List ℕ) → Type 0
PutsFront bytes old new =
    WhereTold old new (λ before now. (front rest : List ℕ) × (rest ≢ []) × (bytes ≡ front ++ rest) × (now ≡ before ++ front))
