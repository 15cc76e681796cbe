-- A disk over memory whose changes are made once more is the disk, with an image of it.
use Rattle.std.proofs.Common.{◌≡◌, ℕ, List, [], ◌∷◌, length, replicate, Option, Some, None, refl, subst}
use Rattle.std.proofs.lemmas.List.{length-replicate}
use Rattle.nego_io.specs.Disks.{overwritten, Torn}
use Rattle.nego_io.specs.MemDisks.{DiskState, IsImage, filled, after_update}
use Rattle.nego_io.specs.ImageLaws.{torn-overwritten, shortened-take}
use Rattle.nego_io.specs.Replay.{remade, replay_of}
use Rattle.nego_io.specs.declared.change.Update.{Update}
use Rattle.nego_io.specs.declared.change.Update.TheVariants.{Write, Cut}

-- what a change makes of it
pub remade-disk : (filler : ℕ) (disk : DiskState) (update : Option Update) → remade update (replay_of filler disk) ≡ replay_of filler (after_update disk update)
remade-disk filler disk (Some (Write at piece)) = refl
remade-disk filler disk (Some (Cut to)) = refl
remade-disk filler disk None = refl

-- what is filled is an image
pub filled-is_image : (filler : ℕ) (pending : List Update) (synced : List ℕ) → IsImage pending synced (filled filler pending synced)
filled-is_image filler [] synced = refl
filled-is_image filler (Write at piece ∷ earlier) synced =
    let rest = filled filler earlier synced in
    let image = overwritten at (replicate (length piece) filler) rest in
    (rest, (filled-is_image filler earlier synced, subst (λ (n : ℕ). Torn at n rest image) (length-replicate (length piece) filler) (torn-overwritten at (replicate (length piece) filler) rest)))
filled-is_image filler (Cut to ∷ earlier) synced = (filled filler earlier synced, (filled-is_image filler earlier synced, shortened-take to (filled filler earlier synced)))
