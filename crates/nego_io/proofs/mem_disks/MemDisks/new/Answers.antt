use Rattle.std.proofs.Common.{◌≡◌, ℕ, length, ◌∙◌, ap}
use Rattle.std.proofs.lemmas.List.{take_all}
use Rattle.nego_io.specs.MemDisks.{no_disk_calls}
use Rattle.nego_io.proofs.DiskLaws.{present-first}
use Rattle.nego_io.proofs.mem_disks.MemDisks.new.Goals as goal

pub invariant_of-result : goal.invariant_of-result
invariant_of-result c =
    let first_is : c.loop-content.first ≡ c.args.contents =
    c.loop-content.invariant ∙ (take_all c.loop-content.content-index c.as_slice-content-items.result.now c.loop-content-test.false ∙ c.as_slice-content-items.ensures) in
    let calls_are : c.in_ok-calls.calls ≡ no_disk_calls (length c.args.contents) c.args.fails c.args.fuse =
    c.in_ok-calls.ensures ∙ ap (λ (n : ℕ). no_disk_calls n c.args.fails c.args.fuse) c.len.ensures in
    rw (first_is, c.new-2.ensures, calls_are) (present-first c.args.contents c.args.fails c.args.fuse c.requires)
