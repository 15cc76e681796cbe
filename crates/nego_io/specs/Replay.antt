-- A disk over memory while its changes are made once more.
use Rattle.std.specs.Prelude.{ℕ, length, take, replicate, Option, Some, None}
use Rattle.nego_io.specs.Disks.{overwritten}
use Rattle.nego_io.specs.MemDisks.{DiskState, content_after, filled}
use Rattle.nego_io.specs.declared.change.Update.{Update}
use Rattle.nego_io.specs.declared.change.Update.TheVariants.{Write, Cut}
use Rattle.nego_io.specs.declared.replay.Replay.{Replay}

-- a disk as it stands, with its image
abbrev pub replay_of : ℕ → DiskState → Replay
replay_of filler disk =
    record { content = content_after disk.pending disk.synced; image = filled filler disk.pending disk.synced; filler = filler }

-- the disk after one more change; a sync makes the image the content
abbrev pub remade : Option Update → Replay → Replay
remade (Some (Write at piece)) r =
    record {
      content = overwritten at piece r.content;
      image = overwritten at (replicate (length piece) r.filler) r.image;
      filler = r.filler;
    }
remade (Some (Cut to)) r = record { content = take to r.content; image = take to r.image; filler = r.filler }
remade None r = record { content = r.content; image = r.content; filler = r.filler }
