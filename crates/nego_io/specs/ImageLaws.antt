-- What updates leave of a content is one of its images.
use Rattle.std.proofs.Common.{◌≡◌, ℕ, ◌+◌, ◌-◌, ◌<◌, ◌≤◌, ⊎_elim, List, [], ◌∷◌, ◌++◌, length, take, drop, min, refl, sym, ◌∙◌, ap, arith, get_or, length-append, length-take, length-drop, length-take-le, get_or-take, get_or-drop}
use Rattle.std.proofs.lemmas.List.{get_or_append_left, get_or-append_right, take_min}
use Rattle.nego_io.specs.Disks.{overwritten, Torn, Shortened, LeavesNow}
use Rattle.nego_io.specs.MemDisks.{MemDisksState, content_after, IsImage, disk_now, content_now, told_of}
use Rattle.nego_io.specs.declared.change.Update.{Update}
use Rattle.nego_io.specs.declared.change.Update.TheVariants.{Write, Cut}

-- how long a content is once a piece was written over it
pub length-overwritten : (at : ℕ) (piece content : List ℕ) → length (overwritten at piece content) ≡ min at (length content) + (length piece + (length content - (at + length piece)))
length-overwritten at piece content =
    length-append (take at content) (piece ++ drop (at + length piece) content)
    ∙ (ap (λ (n : ℕ). n + length (piece ++ drop (at + length piece) content)) (length-take at content)
    ∙ ap (λ (n : ℕ). min at (length content) + n) (length-append piece (drop (at + length piece) content) ∙ ap (λ (n : ℕ). length piece + n) (length-drop (at + length piece) content)))

-- bytes before a piece that was written stay
before-overwritten : (at : ℕ) (piece content : List ℕ) (k : ℕ) → k < length content → k < at → get_or (overwritten at piece content) k 0 ≡ get_or content k 0
before-overwritten at piece content k there below =
    let front : k < length (take at content) = omega (arith, length-take at content, there, below) in
    get_or_append_left (take at content) (piece ++ drop (at + length piece) content) 0 k front ∙ get_or-take at content k 0 below

-- bytes behind it stay
behind-overwritten : (at : ℕ) (piece content : List ℕ) (k : ℕ) → k < length content → at + length piece ≤ k → get_or (overwritten at piece content) k 0 ≡ get_or content k 0
behind-overwritten at piece content k there behind =
    let front : length (take at content) ≡ at = length-take-le at content (omega (arith, there, behind)) in
    let place : (at + length piece) + ((k - at) - length piece) ≡ k = omega (arith, behind) in
    get_or-append_right (take at content) (piece ++ drop (at + length piece) content) at k 0 front (omega (arith, behind))
    ∙ (get_or-append_right piece (drop (at + length piece) content) (length piece) (k - at) 0 refl (omega (arith, behind))
    ∙ (get_or-drop (at + length piece) content ((k - at) - length piece) 0 ∙ ap (λ (n : ℕ). get_or content n 0) place))

-- a write changes nothing outside its range
pub torn-overwritten : (at : ℕ) (piece content : List ℕ) → Torn at (length piece) content (overwritten at piece content)
torn-overwritten at piece content = record {
  stays = λ k there outside. ⊎_elim (before-overwritten at piece content k there) (behind-overwritten at piece content k there) outside;
  no_shorter = omega (arith, length-overwritten at piece content);
  no_longer = omega (arith, length-overwritten at piece content);
}

-- a cut leaves a front
pub shortened-take : (to : ℕ) (content : List ℕ) → Shortened to content (take to content)
shortened-take to content = record {
  front = sym (ap (λ (n : ℕ). take n content) (length-take to content) ∙ take_min to content);
  no_shorter = omega (arith, length-take to content);
}

-- what updates leave is an image
pub after-is_image : (pending : List Update) (synced : List ℕ) → IsImage pending synced (content_after pending synced)
after-is_image [] synced = refl
after-is_image (Write at piece ∷ earlier) synced = (content_after earlier synced, (after-is_image earlier synced, torn-overwritten at piece (content_after earlier synced)))
after-is_image (Cut to ∷ earlier) synced = (content_after earlier synced, (after-is_image earlier synced, shortened-take to (content_after earlier synced)))

pub content-is_image : (s : MemDisksState) (i : ℕ) → LeavesNow (told_of s) i (content_now s i)
content-is_image s i = after-is_image (disk_now s i).pending (disk_now s i).synced
