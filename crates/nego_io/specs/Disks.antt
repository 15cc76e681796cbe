-- Disks that may be stopped at any moment: what is told of them, and what a call on one of them changes.
use Rattle.std.specs.Prelude.{◌≡◌, ◌≢◌, ℕ, ◌+◌, ◌<◌, ◌≤◌, Bool, IsTrue, ◌⊎◌, ◌↔◌, All, List, ◌++◌, length, take, drop, min, max, slice_index}

-- What is told of the disks of a program. Where they aren't telling, only their number and the counts of faults mean
-- anything.
pub record ToldDisks : Type 1 where
  pub telling : Bool
  pub disks : ℕ
  -- how often a call on this disk failed
  pub faults : ℕ → ℕ
  -- what a read of this disk gives
  pub content : ℕ → List ℕ
  -- the present moment, on one clock for all disks
  pub moment : ℕ
  -- A stop at this moment may leave on this disk this content, an image. It leaves one image on each disk, any of one
  -- disk beside any of another.
  pub leaves : ℕ → ℕ → List ℕ → Type 0

-- A stop now may leave this image on this disk.
abbrev pub LeavesNow : ToldDisks → ℕ → List ℕ → Type 0
LeavesNow d i image = d.leaves d.moment i image

-- The moment is one since the call began.
pub record IsSince (old new : ToldDisks) (t : ℕ) : Type 0 where
  pub from : old.moment ≤ t
  pub to : t ≤ new.moment

-- The clock doesn't go back, and what a stop at an earlier moment may have left stays.
pub record Elapses (old new : ToldDisks) : Type 0 where
  pub later : old.moment ≤ new.moment
  pub past : (t i : ℕ) (image : List ℕ) → t ≤ old.moment → new.leaves t i image ↔ old.leaves t i image

-- The disk is as before: its content, and at each moment since then its images.
pub record IsAsBefore (i : ℕ) (old new : ToldDisks) : Type 0 where
  pub content : new.content i ≡ old.content i
  pub images : (t : ℕ) (image : List ℕ) → IsSince old new t → new.leaves t i image ↔ LeavesNow old i image

-- What calls on one disk keep: what tells after them told before, its count of faults doesn't fall, time goes on, and
-- no other disk changes.
pub record AreCallsOn (i : ℕ) (old new : ToldDisks) : Type 0 where
  pub told : IsTrue new.telling → IsTrue old.telling
  pub disks : new.disks ≡ old.disks
  pub later : old.faults i ≤ new.faults i
  pub faults : (j : ℕ) → j ≢ i → new.faults j ≡ old.faults j
  pub elapses : IsTrue new.telling → Elapses old new
  pub others : (j : ℕ) → j ≢ i → IsTrue new.telling → IsAsBefore j old new

-- What calls on some disks keep: what tells after them told before, no count of faults falls, time goes on, and no disk
-- that isn't one of them changes.
pub record AreCallsOnDisks (is : List ℕ) (old new : ToldDisks) : Type 0 where
  pub told : IsTrue new.telling → IsTrue old.telling
  pub disks : new.disks ≡ old.disks
  pub later : (j : ℕ) → old.faults j ≤ new.faults j
  pub faults : (j : ℕ) → All (λ i. j ≢ i) is → new.faults j ≡ old.faults j
  pub elapses : IsTrue new.telling → Elapses old new
  pub others : (j : ℕ) → All (λ i. j ≢ i) is → IsTrue new.telling → IsAsBefore j old new

-- Where it is told, the disk has this content.
abbrev pub HasContent : ToldDisks → ℕ → List ℕ → Type 0
HasContent d i content = IsTrue d.telling → d.content i ≡ content

-- Where it is told, nothing is pending on the disk: a stop now leaves what a read gives.
abbrev pub IsSynced : ToldDisks → ℕ → Type 0
IsSynced d i = IsTrue d.telling → (image : List ℕ) → LeavesNow d i image → image ≡ d.content i

-- Where it is told, a stop at each moment since then leaves on the disk only images with P.
abbrev pub LeavesOnly : (List ℕ → Type 0) → ℕ → ToldDisks → ToldDisks → Type 0
LeavesOnly P i old new = IsTrue new.telling → (t : ℕ) (image : List ℕ) → IsSince old new t → new.leaves t i image → P image

-- The disk was only read: its content stands, and a stop at each moment since leaves an image that it had.
pub record IsRead (i : ℕ) (old new : ToldDisks) : Type 0 where
  pub content : HasContent new i (old.content i)
  pub images : LeavesOnly (LeavesNow old i) i old new
  pub calls : AreCallsOn i old new

-- An image that the disk had, after such an update.
abbrev pub Follows : (List ℕ → List ℕ → Type 0) → ToldDisks → ℕ → List ℕ → Type 0
Follows Leaves d i image = (before : List ℕ) × (LeavesNow d i before × Leaves before image)

-- the content with a piece written over it, from a place on
abbrev pub overwritten : ℕ → List ℕ → List ℕ → List ℕ
overwritten at piece content = take at content ++ (piece ++ drop (at + length piece) content)

-- What a write of so many bytes at a place may leave before a sync: each byte outside the range stays, and the length
-- is at least what it was, and at most that or the end of the range.
pub record Torn (at count : ℕ) (before image : List ℕ) : Type 0 where
  pub stays : (k : ℕ) → k < length before → (k < at) ⊎ (at + count ≤ k) → slice_index image k ≡ slice_index before k
  pub no_shorter : length before ≤ length image
  pub no_longer : length image ≤ max (length before) (at + count)

-- What a cut to a length may leave before a sync: a front that isn't cut shorter.
pub record Shortened (to : ℕ) (before image : List ℕ) : Type 0 where
  pub front : image ≡ take (length image) before
  pub no_shorter : min to (length before) ≤ length image

-- What a cut to a length may leave where it fails: as many bytes or fewer, of which those before the length stay.
pub record Ragged (to : ℕ) (before image : List ℕ) : Type 0 where
  pub front : take to image ≡ take to before
  pub no_longer : length image ≤ length before
