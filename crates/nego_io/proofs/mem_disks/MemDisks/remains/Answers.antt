use Rattle.std.proofs.Common.{◌≡◌, ℕ, List, [], length, take, slice_index_or, sym, ◌∙◌, ap, subst, arith}
use Rattle.std.proofs.lemmas.List.{take_all}
use Rattle.std.proofs.lemmas.Option.{get_or_from_slice_get}
use Rattle.nego_io.specs.Disks.{LeavesNow}
use Rattle.nego_io.specs.MemDisks.{DiskState, MemDisksState, disk_after, disk_now, told_of}
use Rattle.nego_io.specs.Replay.{replay_of}
use Rattle.nego_io.specs.declared.change.Change.{Change}
use Rattle.nego_io.specs.declared.replay.Replay.{Replay}
use Rattle.nego_io.proofs.ReplayLaws.{filled-is_image}
use Rattle.nego_io.proofs.mem_disks.MemDisks.remains.Goals as goal

pub returns-clause-left : goal.returns-clause-left
returns-clause-left c =
    let i = c.args.i in
    let filler = c.args.filler in
    let was : MemDisksState = record { first = c.self.inside.first; changes = c.self.inside.changes; calls = c.self.inside.calls } in
    let first_is : c.as_slice-first.result.now ≡ slice_index_or c.self.inside.first i [] =
    c.as_slice-first.ensures ∙ sym (get_or_from_slice_get c.self.inside.first i _ [] c.index.ensures) in
    let changes_are : c.as_slice.result.now ≡ take (length c.self.inside.changes) c.self.inside.changes =
    c.as_slice.ensures ∙ sym (take_all (length c.self.inside.changes) c.self.inside.changes (omega arith)) in
    let disk_is : disk_after i c.as_slice-first.result.now c.as_slice.result.now ≡ disk_now was i =
    ap (λ (first : List ℕ). disk_after i first c.as_slice.result.now) first_is ∙ ap (λ (changes : List Change). disk_after i (slice_index_or c.self.inside.first i []) changes) changes_are in
    let replay_is : c.in_ok-replay.replay ≡ replay_of filler (disk_now was i) = c.in_ok-replay.ensures ∙ ap (λ (d : DiskState). replay_of filler d) disk_is in
    let left = subst (λ (r : Replay). LeavesNow (told_of was) i r.image) (sym replay_is) (filled-is_image filler (disk_now was i).pending (disk_now was i).synced) in
    subst (λ (s : MemDisksState). LeavesNow (told_of s) i c.in_ok-replay.replay.image) c.self.view_is left
