use Rattle.std.proofs.Common.{◌≡◌, take}
use Rattle.nego_io.specs.MemDisks.{disk_after}
use Rattle.nego_io.specs.Replay.{replay_of}
use Rattle.nego_io.proofs.replay.replayed.Given as goal

abbrev pub invariant-loop-change : goal.invariant-loop-change
invariant-loop-change l = l.replay ≡ replay_of l.filler (disk_after l.i l.fn.first (take l.change-index l.changes))
