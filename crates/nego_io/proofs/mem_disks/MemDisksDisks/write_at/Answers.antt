use Rattle.std.proofs.Common.{ap, Some, sym, ◌∙◌, subst}
use Rattle.nego_io.specs.Disks.{LeavesOnly, Follows, AreCallsOn}
use Rattle.nego_io.specs.MemDisks.{MemDisksState, MayLeave, told_of}
use Rattle.nego_io.specs.declared.change.Update.{Update}
use Rattle.nego_io.specs.declared.change.Update.TheVariants.{Write}
use Rattle.nego_io.specs.declared.disk_calls.DiskCalls.{DiskCalls}
use Rattle.nego_io.proofs.DiskLaws.{calls-on, images-after, images-unmade}
use Rattle.nego_io.proofs.mem_disks.MemDisksDisks.write_at.Goals as goal

pub returns-in-Ok-clause-images : goal.returns-in-Ok-clause-images
returns-in-Ok-clause-images c =
    let i = c.args.i in
    let update : Update = Write c.args.at c.args.piece.now in
    let was : MemDisksState = record { first = c.self.inside.first; changes = c.self.inside.changes; calls = c.self.inside.calls } in
    let made = subst (λ (s : MemDisksState). LeavesOnly (Follows (MayLeave update) (told_of was) i) i (told_of was) (told_of s)) (sym c.in-Ok.ensures.ok) (images-after was i update c.begin.new.self) in
    subst (λ (s : MemDisksState). LeavesOnly (Follows (MayLeave update) (told_of s) i) i (told_of s) (told_of c.write.new.self)) c.self.view_is made

pub returns-in-Ok-clause-calls : goal.returns-in-Ok-clause-calls
returns-in-Ok-clause-calls c =
    let i = c.args.i in
    let was : MemDisksState = record { first = c.self.inside.first; changes = c.self.inside.changes; calls = c.self.inside.calls } in
    let made = subst (λ (s : MemDisksState). AreCallsOn i (told_of was) (told_of s)) (sym c.in-Ok.ensures.ok) (calls-on was i (Some (Write c.args.at c.args.piece.now)) c.begin.new.self (ap (λ (calls : DiskCalls). calls.failed) c.begin.ensures.counts)) in
    subst (λ (s : MemDisksState). AreCallsOn i (told_of s) (told_of c.write.new.self)) c.self.view_is made

pub returns-in-Err-clause-images : goal.returns-in-Err-clause-images
returns-in-Err-clause-images c =
    let i = c.args.i in
    let update : Update = Write c.args.at c.args.piece.now in
    let was : MemDisksState = record { first = c.self.inside.first; changes = c.self.inside.changes; calls = c.self.inside.calls } in
    let same = subst (λ (s : MemDisksState). LeavesOnly (Follows (MayLeave update) (told_of was) i) i (told_of was) (told_of (record { first = s.first; changes = s.changes; calls = c.starve.new.self })))
    (sym (c.self-2.view_is ∙ c.in-Err.ensures.err)) (images-unmade was i update c.starve.new.self) in
    subst (λ (s : MemDisksState). LeavesOnly (Follows (MayLeave update) (told_of s) i) i (told_of s) (told_of (record { first = c.self-2.inside.first; changes = c.self-2.inside.changes; calls = c.starve.new.self }))) c.self.view_is same
