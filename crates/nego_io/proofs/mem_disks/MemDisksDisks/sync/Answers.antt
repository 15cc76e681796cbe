use Rattle.std.proofs.Common.{sym, subst}
use Rattle.nego_io.specs.Disks.{LeavesNow, LeavesOnly}
use Rattle.nego_io.specs.MemDisks.{MemDisksState, told_of}
use Rattle.nego_io.proofs.DiskLaws.{images-synced}
use Rattle.nego_io.proofs.mem_disks.MemDisksDisks.sync.Goals as goal

pub returns-in-Ok-clause-images : goal.returns-in-Ok-clause-images
returns-in-Ok-clause-images c =
    let i = c.args.i in
    let was : MemDisksState = record { first = c.self.inside.first; changes = c.self.inside.changes; calls = c.self.inside.calls } in
    let made = subst (λ (s : MemDisksState). LeavesOnly (LeavesNow (told_of was) i) i (told_of was) (told_of s)) (sym c.in-Ok.ensures.ok) (images-synced was i c.begin.new.self) in
    subst (λ (s : MemDisksState). LeavesOnly (LeavesNow (told_of s) i) i (told_of s) (told_of c.settle.new.self)) c.self.view_is made
