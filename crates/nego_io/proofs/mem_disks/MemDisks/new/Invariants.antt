use Rattle.std.proofs.Common.{◌≡◌, take}
use Rattle.nego_io.proofs.mem_disks.MemDisks.new.Given as goal

abbrev pub invariant-loop-content : goal.invariant-loop-content
invariant-loop-content l = l.first ≡ take l.content-index l.content-items
