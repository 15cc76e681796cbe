-- What a call leaves of an object of the outside.
use Rattle.std.specs.Prelude.{◌≡◌, ◌⊎◌, ℕ, List, Option}
use Rattle.nego_io.specs.Outside.{Rose, Puts, PutsFront}

-- What is seen of an object of the outside before a call and after it: its bytes, where told, and its count of faults.
pub record Effect : Type 0 where
  pub before : Option (List ℕ)
  pub after : Option (List ℕ)
  pub faults_before : ℕ
  pub faults_after : ℕ

abbrev pub effect : {X : Type 0} → (X → Option (List ℕ)) → (X → ℕ) → X → X → Effect
effect bytes faults old new = record { before = bytes old; after = bytes new; faults_before = faults old; faults_after = faults new }

-- The count of faults rose, or stands at its last value.
abbrev pub HasFaulted : Effect → Type 0
HasFaulted object = Rose object.faults_before object.faults_after

-- The count of faults stayed.
abbrev pub Stayed : Effect → Type 0
Stayed object = object.faults_after ≡ object.faults_before

-- These bytes were put, no others, and no call failed.
abbrev pub Put : List ℕ → Effect → Type 0
Put text object = Puts text object.before object.after × Stayed object

-- A call failed: a front of these bytes, but not all, was put, and no others.
abbrev pub PutFront : List ℕ → Effect → Type 0
PutFront text object = HasFaulted object × PutsFront text object.before object.after

-- These bytes were put, or a front of them where a call failed, and no others.
abbrev pub Tried : List ℕ → Effect → Type 0
Tried text object = Put text object ⊎ PutFront text object
