-- What one more change does to disks over memory.
use Rattle.std.proofs.Common.{◌≡◌, ◌≢◌, ℕ, ◌^◌, ◌<◌, ◌≤◌, ◌==◌, true, false, ◌⊎◌, inl, inr, ⊎_elim, List, [], ◌∷◌, ◌++◌, length, Option, Some, None, refl, sym, ◌∙◌, ap, subst, arith, eq-eqb, eqb-true, slice_index, slice_index_or, slice_set, get_or-set_same, get_or-set_other, length-set, length-append}
use Rattle.std.specs.List.{fold}
use Rattle.std.proofs.lemmas.List.{take-append-le, take_all, length-replicate}
use Rattle.std.proofs.lemmas.List.Sums.{fold-append}
use Rattle.std.proofs.lemmas.Bool.{cases_lt, cases_eq}
use Rattle.nego_io.specs.Disks.{LeavesNow, LeavesOnly, Follows, AreCallsOn, IsSince}
use Rattle.nego_io.specs.MemDisks.{DiskState, MemDisksState, MayLeave, IsImage, content_after, after_update, after_change, disk_at, disk_now, content_now, ArePresent, no_disk_calls, told_of}
use Rattle.nego_io.specs.ImageLaws.{content-is_image}
use Rattle.nego_io.specs.declared.change.Change.{Change}
use Rattle.nego_io.specs.declared.change.Update.{Update}
use Rattle.nego_io.specs.declared.change.Update.TheVariants.{Write, Cut}
use Rattle.nego_io.specs.declared.disk_calls.DiskCalls.{DiskCalls}

-- the disks with one more change
abbrev pub changed : MemDisksState → Change → DiskCalls → MemDisksState
changed s change calls = record { first = s.first; changes = s.changes ++ change ∷ []; calls = calls }

-- an image of a disk
abbrev pub ImageOf : List ℕ → DiskState → Type 0
ImageOf image disk = IsImage disk.pending disk.synced image

-- a change of the disk itself, and of another
pub own-change : (i : ℕ) (disk : DiskState) (update : Option Update) → after_change i disk (record { disk = i; update = update }) ≡ after_update disk update
own-change i disk update = rw (eq-eqb i i refl) refl

pub other-change : (i j : ℕ) (disk : DiskState) (update : Option Update) → j ≢ i → after_change j disk (record { disk = i; update = update }) ≡ disk
other-change i j disk update differ =
    let apart : (i == j) ≡ false =
    elim (i == j) as (λ v. (v ≡ true → i ≡ j) → v ≡ false) [ true ↦ λ h. absurd (differ (sym (h refl))) | false ↦ λ h. refl ] (eqb-true i j)
    in rw apart refl

module _ (s : MemDisksState) (change : Change) (calls : DiskCalls) where
  -- the past stays
  pub disk-past : (t j : ℕ) → t ≤ length s.changes → disk_at (changed s change calls) t j ≡ disk_at s t j
  disk-past t j le =
      ap (λ (cs : List Change). fold (after_change j) (record { synced = slice_index_or s.first j []; pending = [] }) cs) (take-append-le t s.changes (change ∷ []) le)

  -- and now the change was made
  pub disk-next : (j : ℕ) → disk_now (changed s change calls) j ≡ after_change j (disk_now s j) change
  disk-next j =
      let start : DiskState = record { synced = slice_index_or s.first j []; pending = [] } in
      ap (λ (cs : List Change). fold (after_change j) start cs) (take_all (length (s.changes ++ change ∷ [])) (s.changes ++ change ∷ []) (omega arith))
      ∙ (fold-append (after_change j) start s.changes (change ∷ [])
      ∙ ap (λ (cs : List Change). after_change j (fold (after_change j) start cs) change) (sym (take_all (length s.changes) s.changes (omega arith))))

  -- at each moment since, it wasn't made yet or it was
  pub disk-since : (t j : ℕ) → IsSince (told_of s) (told_of (changed s change calls)) t →
      (disk_at (changed s change calls) t j ≡ disk_now s j) ⊎ (disk_at (changed s change calls) t j ≡ after_change j (disk_now s j) change)
  disk-since t j since =
      elim (cases_lt (length s.changes) t) [
        | inl after ↦
            let last : t ≡ length (s.changes ++ change ∷ []) = omega (arith, after, since.to, length-append s.changes (change ∷ [])) in
            inr (ap (λ (n : ℕ). disk_at (changed s change calls) n j) last ∙ disk-next j)
        | inr before ↦
            let first : t ≡ length s.changes = omega (arith, before, since.from) in
            inl (disk-past t j before ∙ ap (λ (n : ℕ). disk_at s n j) first)
      ]

-- A change of one disk is all that happens to the others.
pub calls-on : (s : MemDisksState) (i : ℕ) (update : Option Update) (calls : DiskCalls) → calls.failed ≡ s.calls.failed →
    AreCallsOn i (told_of s) (told_of (changed s (record { disk = i; update = update }) calls))
calls-on s i update calls counts = record {
  told = λ told. told;
  disks = refl;
  later = let same = ap (λ (failed : List ℕ). slice_index failed i) counts in omega (arith, same);
  faults = λ j differ. ap (λ (failed : List ℕ). slice_index failed j) counts;
  elapses = λ told. record {
    later = omega (arith, length-append s.changes (change ∷ []));
    past = λ t j image le. (λ left. subst (ImageOf image) (disk-past s change calls t j le) left, λ left. subst (ImageOf image) (sym (disk-past s change calls t j le)) left);
  };
  others = λ j differ told. record {
    content = ap (λ (d : DiskState). content_after d.pending d.synced) (disk-next s change calls j ∙ other-change i j (disk_now s j) update differ);
    images = λ t image since. let same = still j differ t since in (λ left. subst (ImageOf image) same left, λ left. subst (ImageOf image) (sym same) left);
  };
}
  where
    change : Change
    change = record { disk = i; update = update }

    still : (j : ℕ) → j ≢ i → (t : ℕ) → IsSince (told_of s) (told_of (changed s change calls)) t → disk_at (changed s change calls) t j ≡ disk_now s j
    still j differ t since = ⊎_elim (λ e. e) (λ e. e ∙ other-change i j (disk_now s j) update differ) (disk-since s change calls t j since)

-- an update that wasn't made leaves each image
pub may_leave-itself : (update : Update) (image : List ℕ) → MayLeave update image image
may_leave-itself (Write at piece) image = record { stays = λ k there outside. refl; no_shorter = omega arith; no_longer = omega arith }
may_leave-itself (Cut to) image = record { front = sym (take_all (length image) image (omega arith)); no_shorter = omega arith }

-- what an update leaves at each moment since
pub images-after : (s : MemDisksState) (i : ℕ) (update : Update) (calls : DiskCalls) →
    LeavesOnly (Follows (MayLeave update) (told_of s) i) i (told_of s) (told_of (changed s (record { disk = i; update = Some update }) calls))
images-after s i update calls told t image since left =
    let change : Change = record { disk = i; update = Some update } in
    ⊎_elim
    (λ e. (image, (subst (ImageOf image) e left, may_leave-itself update image)))
    (λ e. subst (ImageOf image) (e ∙ own-change i (disk_now s i) (Some update)) left)
    (disk-since s change calls t i since)

-- what a sync leaves at each moment since
pub images-synced : (s : MemDisksState) (i : ℕ) (calls : DiskCalls) →
    LeavesOnly (LeavesNow (told_of s) i) i (told_of s) (told_of (changed s (record { disk = i; update = None }) calls))
images-synced s i calls told t image since left =
    let change : Change = record { disk = i; update = None } in
    ⊎_elim
    (λ e. subst (ImageOf image) e left)
    (λ e. let is_content : image ≡ content_now s i = subst (ImageOf image) (e ∙ own-change i (disk_now s i) None) left in
    subst (λ (c : List ℕ). LeavesNow (told_of s) i c) (sym is_content) (content-is_image s i))
    (disk-since s change calls t i since)

-- what a call that does nothing leaves
pub images-same : (s : MemDisksState) (i : ℕ) (calls : DiskCalls) →
    LeavesOnly (LeavesNow (told_of s) i) i (told_of s) (told_of (record { first = s.first; changes = s.changes; calls = calls }))
images-same s i calls told t image since left =
    let now : t ≡ length s.changes = omega (arith, since.from, since.to) in
    subst (λ (n : ℕ). ImageOf image (disk_at s n i)) now left

pub images-unmade : (s : MemDisksState) (i : ℕ) (update : Update) (calls : DiskCalls) →
    LeavesOnly (Follows (MayLeave update) (told_of s) i) i (told_of s) (told_of (record { first = s.first; changes = s.changes; calls = calls }))
images-unmade s i update calls told t image since left = (image, (images-same s i calls told t image since left, may_leave-itself update image))

-- the contents are present again once the one of the disk is
pub present-after : (s : MemDisksState) (i : ℕ) (update : Option Update) (contents : List (List ℕ)) (next : List ℕ) → ArePresent s contents → i < length s.first →
    next ≡ content_now (changed s (record { disk = i; update = update }) s.calls) i →
    ArePresent (changed s (record { disk = i; update = update }) s.calls) (slice_set contents i next)
present-after s i update contents next are below is = record {
  all = length-set contents i next ∙ are.all;
  few = are.few;
  present = λ j there. ⊎_elim (λ e. here j e) (λ e. there_still j there e) (cases_eq j i);
  made = are.made;
  failed = are.failed;
}
  where
    change : Change
    change = record { disk = i; update = update }

    here : (j : ℕ) → j ≡ i → slice_index_or (slice_set contents i next) j [] ≡ content_now (changed s change s.calls) j
    here j e =
        subst (λ (n : ℕ). slice_index_or (slice_set contents i next) n [] ≡ content_now (changed s change s.calls) n) (sym e)
        (get_or-set_same contents i next [] (omega (arith, below, are.all)) ∙ is)

    there_still : (j : ℕ) → j < length s.first → j ≢ i → slice_index_or (slice_set contents i next) j [] ≡ content_now (changed s change s.calls) j
    there_still j there differ =
        get_or-set_other contents i j next [] differ
        ∙ (are.present j there ∙ sym (ap (λ (d : DiskState). content_after d.pending d.synced) (disk-next s change s.calls j ∙ other-change i j (disk_now s j) update differ)))

-- what the disk has after an update
pub content-next : (s : MemDisksState) (i : ℕ) (update : Option Update) → content_now (changed s (record { disk = i; update = update }) s.calls) i ≡ content_after (after_update (disk_now s i) update).pending (after_update (disk_now s i) update).synced
content-next s i update = ap (λ (d : DiskState). content_after d.pending d.synced) (disk-next s (record { disk = i; update = update }) s.calls i ∙ own-change i (disk_now s i) update)

-- at first the contents are present
pub present-first : (first : List (List ℕ)) (listed : List (ℕ × ℕ)) (fuse : Option ℕ) → length first < 2 ^ 32 →
    ArePresent (record { first = first; changes = []; calls = no_disk_calls (length first) listed fuse }) first
present-first first listed fuse few = record {
  all = refl;
  few = few;
  present = λ i below. refl;
  made = length-replicate (length first) 0;
  failed = length-replicate (length first) 0;
}
