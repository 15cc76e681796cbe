-- Journals on disks that may stop at any moment.
use Rattle.std.specs.Prelude.{◌≡◌, ℕ, ◌+◌, ◌*◌, ◌≤◌, Bool, true, false, IsTrue, ◌⊎◌, List, [], ◌∷◌, ◌++◌, length, drop, Result, Ok, Err}
use Rattle.nego_io.specs.Outside.{Rose}
use Rattle.nego_io.specs.Disks.{ToldDisks, LeavesNow, IsRead, IsSynced}
use Rattle.agent_msg.specs.Records.{PlainRecord}
use Rattle.agent_msg.specs.Bytes.{entry_bytes}
use Rattle.agent_journal.specs.declared.fault.JournalFault.{JournalFault}
use Rattle.agent_journal.specs.declared.fault.JournalFault.TheVariants.{DiskFault, Full, BadRecord, MustReload, Memory}
use Rattle.agent_journal.specs.Slots.{kept, StandsFor, IsClosed, IsFirstBad, IsBadFirst}

-- A journal: how many records it has, and whether it has to be loaded again.
pub record JournalState : Type 0 where
  pub count : ℕ
  pub failed : Bool

-- Where it is told, the disk keeps so many records, nothing is pending, and the next gate is closed.
pub record IsSettled (d : ToldDisks) (i count : ℕ) : Type 0 where
  pub synced : IsSynced d i
  pub all : IsTrue d.telling → length (kept (d.content i)) ≡ count
  pub closed : IsTrue d.telling → IsClosed count (d.content i)

-- The disk is as the journal left it, unless the journal has to be loaded again.
abbrev pub IsReady : JournalState → ToldDisks → ℕ → Type 0
IsReady journal d i = journal.failed ≡ false → IsSettled d i journal.count

-- The image keeps the records of an image that the disk had.
pub record KeepsSome (d : ToldDisks) (i : ℕ) (image : List ℕ) : Type 0 where
  pub before : List ℕ
  pub left : LeavesNow d i before
  pub same : kept image ≡ kept before

-- The file keeps these records.
abbrev pub KeepsAll : List (List ℕ) → List ℕ → Type 0
KeepsAll records file = kept file ≡ records

-- The file keeps these records, or these and one more.
abbrev pub KeepsOrAdds : List (List ℕ) → PlainRecord → List ℕ → Type 0
KeepsOrAdds records entry file = (kept file ≡ records) ⊎ (kept file ≡ records ++ entry_bytes entry ∷ [])

-- Where it is told, each image of the disk since that moment stands for a list that begins with this one.
abbrev pub BeginsWith : List PlainRecord → ℕ → ℕ → ToldDisks → Type 0
BeginsWith journal from i d =
    IsTrue d.telling →
    (from ≤ d.moment) × ((t : ℕ) (image : List ℕ) → from ≤ t → t ≤ d.moment → d.leaves t i image → (more : List PlainRecord) × StandsFor image (journal ++ more))

-- The disk was only read, and no call on it failed.
pub record IsOnlyRead (i : ℕ) (old new : ToldDisks) : Type 0 where
  pub read : IsRead i old new
  pub stayed : new.faults i ≡ old.faults i

-- What a load answers where it gives none: a fault of the disk has its cause, a bad record is the first one, and it and
-- want of memory are met before anything is written or cut.
abbrev pub LoadFails : ℕ → ToldDisks → ToldDisks → JournalFault → Type 0
LoadFails i old new DiskFault = Rose (old.faults i) (new.faults i)
LoadFails i old new Full = ⊥
LoadFails i old new (BadRecord k) = IsOnlyRead i old new × (IsTrue new.telling → IsFirstBad (old.content i) k)
LoadFails i old new MustReload = ⊥
LoadFails i old new Memory = IsOnlyRead i old new

-- What an append answers where it appends nothing: a fault of the disk has its cause.
abbrev pub AppendFails : ℕ → ToldDisks → ToldDisks → JournalFault → Type 0
AppendFails i old new DiskFault = Rose (old.faults i) (new.faults i)
AppendFails i old new Full = Unit {0}
AppendFails i old new (BadRecord k) = ⊥
AppendFails i old new MustReload = Unit {0}
AppendFails i old new Memory = ⊥

-- the journal after an append: one more record, or after a fault of the disk the need to be loaded again
abbrev pub after_append : Result (Unit {0}) JournalFault → JournalState → JournalState
after_append (Ok done) journal = record journal { count = journal.count + 1 }
after_append (Err DiskFault) journal = record journal { failed = true }
after_append (Err fault) journal = journal

-- What the reading of slot k answers where it reads none.
abbrev pub SlotFails : ℕ → ℕ → ToldDisks → ToldDisks → JournalFault → Type 0
SlotFails i k old new DiskFault = Rose (old.faults i) (new.faults i)
SlotFails i k old new Full = ⊥
SlotFails i k old new (BadRecord j) = (j ≡ k) × ((new.faults i ≡ old.faults i) × (IsTrue new.telling → IsBadFirst (drop (128 * k) (old.content i))))
SlotFails i k old new MustReload = ⊥
SlotFails i k old new Memory = ⊥
