-- Disks over memory. They keep what they had at first and each change since, so they tell of every moment.
use Rattle.std.specs.Prelude.{◌≡◌, ℕ, ◌^◌, ◌<◌, ◌==◌, Bool, true, false, ◌&&◌, ◌||◌, if◌then◌else◌, List, [], ◌∷◌, ◌++◌, length, take, fold, replicate, slice_index, slice_index_or, slice_set, Option, Some, None, nat_le}
use Rattle.std.specs.List.{list_any}
use Rattle.nego_io.specs.Outside.{next_count}
use Rattle.nego_io.specs.Disks.{ToldDisks, overwritten, Torn, Shortened}
use Rattle.nego_io.specs.declared.change.Change.{Change}
use Rattle.nego_io.specs.declared.change.Update.{Update}
use Rattle.nego_io.specs.declared.change.Update.TheVariants.{Write, Cut}
use Rattle.nego_io.specs.declared.disk_calls.DiskCalls.{DiskCalls}

-- a disk: its content at its last sync, and the updates since then, the latest first
pub record DiskState : Type 0 where
  pub synced : List ℕ
  pub pending : List Update

-- the content after one more update
abbrev pub updated : Update → List ℕ → List ℕ
updated (Write at piece) content = overwritten at piece content
updated (Cut to) content = take to content

-- the content after these updates, of which the latest stands first
abbrev pub content_after : List Update → List ℕ → List ℕ
content_after [] synced = synced
content_after (update ∷ earlier) synced = updated update (content_after earlier synced)

-- what one more update may leave of an image
abbrev pub MayLeave : Update → List ℕ → List ℕ → Type 0
MayLeave (Write at piece) before image = Torn at (length piece) before image
MayLeave (Cut to) before image = Shortened to before image

-- what these updates may leave, of which the latest stands first
abbrev pub IsImage : List Update → List ℕ → List ℕ → Type 0
IsImage [] synced image = image ≡ synced
IsImage (update ∷ earlier) synced image = (before : List ℕ) × (IsImage earlier synced before × MayLeave update before image)

-- the disk after one more change: an update is pending, and without one it was a sync, which makes the content last
abbrev pub after_update : DiskState → Option Update → DiskState
after_update disk (Some update) = record { synced = disk.synced; pending = update ∷ disk.pending }
after_update disk None = record { synced = content_after disk.pending disk.synced; pending = [] }

-- disk i after one more change, which may be of another disk
abbrev pub after_change : ℕ → DiskState → Change → DiskState
after_change i disk change = if change.disk == i then after_update disk change.update else disk

-- a disk with its first content, and nothing pending
abbrev pub at_first : List ℕ → DiskState
at_first first = record { synced = first; pending = [] }

-- disk i, with this first content, after these changes
abbrev pub disk_after : ℕ → List ℕ → List Change → DiskState
disk_after i first changes = fold (after_change i) (at_first first) changes

-- All disks: what they had at first, the changes since in their order, and the record of the calls.
pub record MemDisksState : Type 0 where
  pub first : List (List ℕ)
  pub changes : List Change
  pub calls : DiskCalls

-- disk i after the first t changes
abbrev pub disk_at : MemDisksState → ℕ → ℕ → DiskState
disk_at s t i = disk_after i (slice_index_or s.first i []) (take t s.changes)

-- disk i now
abbrev pub disk_now : MemDisksState → ℕ → DiskState
disk_now s i = disk_at s (length s.changes) i

-- what disk i has now
abbrev pub content_now : MemDisksState → ℕ → List ℕ
content_now s i = content_after (disk_now s i).pending (disk_now s i).synced

-- The contents are the present ones, and the record counts the calls on each of the disks.
pub record ArePresent (s : MemDisksState) (contents : List (List ℕ)) : Type 0 where
  pub all : length contents ≡ length s.first
  pub few : length s.first < 2 ^ 32
  pub present : (i : ℕ) → i < length s.first → slice_index_or contents i [] ≡ content_now s i
  pub made : length s.calls.made ≡ length s.first
  pub failed : length s.calls.failed ≡ length s.first

-- what is told of them: a moment is a number of changes
abbrev pub told_of : MemDisksState → ToldDisks
told_of s =
    record {
      telling = true;
      disks = length s.first;
      faults = λ i. slice_index s.calls.failed i;
      content = λ i. content_now s i;
      moment = length s.changes;
      leaves = λ t i image. IsImage (disk_at s t i).pending (disk_at s t i).synced image;
    }

-- whether the list has this disk with this number of a call
abbrev pub is_listed_call : ℕ → ℕ → List (ℕ × ℕ) → Bool
is_listed_call i number listed = list_any (λ call. (call.0 == i) && (call.1 == number)) listed

-- whether a call of this number, counted over all disks, comes after the fuse is reached
abbrev pub is_reached : Option ℕ → ℕ → Bool
is_reached None number = false
is_reached (Some fuse) number = nat_le fuse number

-- whether the next call on disk i has to fail: it is listed, or the fuse is reached
abbrev pub must_fail : ℕ → DiskCalls → Bool
must_fail i calls = is_listed_call i (slice_index calls.made i) calls.listed || is_reached calls.fuse calls.all

-- one more in the count of disk i
abbrev pub counted : ℕ → List ℕ → List ℕ
counted i counts = slice_set counts i (next_count (slice_index counts i))

-- the record after a call on disk i, and whether it succeeded; one that failed and didn't have to found no memory
abbrev pub after_call : ℕ → Bool → DiskCalls → DiskCalls
after_call i succeeded calls =
    record {
      listed = calls.listed;
      fuse = calls.fuse;
      all = next_count calls.all;
      made = counted i calls.made;
      failed = if succeeded then calls.failed else counted i calls.failed;
      starved = if succeeded || must_fail i calls then calls.starved else next_count calls.starved;
    }

-- the change of a call where it succeeds; one that fails does nothing else
abbrev pub changes_of : ℕ → Bool → Option Update → List Change
changes_of i succeeded update = if succeeded then record { disk = i; update = update } ∷ [] else []

-- The disks after a call that reads.
abbrev pub after_look : ℕ → Bool → MemDisksState → MemDisksState
after_look i succeeded s = record { first = s.first; changes = s.changes; calls = after_call i succeeded s.calls }

-- The disks after a call that changes one.
abbrev pub after_make : ℕ → Bool → Option Update → MemDisksState → MemDisksState
after_make i succeeded update s = record { first = s.first; changes = s.changes ++ changes_of i succeeded update; calls = after_call i succeeded s.calls }

-- no call was made yet
abbrev pub no_disk_calls : ℕ → List (ℕ × ℕ) → Option ℕ → DiskCalls
no_disk_calls disks listed fuse =
    record { listed = listed; fuse = fuse; all = 0; made = replicate disks 0; failed = replicate disks 0; starved = 0 }

-- the image in which every byte written since the last sync is the filler
abbrev pub filled : ℕ → List Update → List ℕ → List ℕ
filled filler [] synced = synced
filled filler (Write at piece ∷ earlier) synced = overwritten at (replicate (length piece) filler) (filled filler earlier synced)
filled filler (Cut to ∷ earlier) synced = take to (filled filler earlier synced)
