use Rattle.std.proofs.Common.{◌<◌, List, ℕ, [], length, Option, Some, sym, ◌∙◌, ap, subst}
use Rattle.std.proofs.lemmas.Option.{get_or_from_slice_get}
use Rattle.nego_io.specs.Disks.{overwritten}
use Rattle.nego_io.specs.MemDisks.{MemDisksState}
use Rattle.nego_io.specs.declared.change.Update.{Update}
use Rattle.nego_io.specs.declared.change.Update.TheVariants.{Write}
use Rattle.nego_io.proofs.DiskLaws.{present-after, content-next}
use Rattle.nego_io.proofs.mem_disks.MemDisks.write.Goals as goal

pub invariant_of-self-2 : goal.invariant_of-self-2
invariant_of-self-2 c =
    let i = c.args.i in
    let update : Option Update = Some (Write c.args.at c.args.piece.now) in
    let was : MemDisksState = record { first = c.self.inside.first; changes = c.self.inside.changes; calls = c.self.inside.calls } in
    let below : i < length was.first = subst (λ (s : MemDisksState). i < length s.first) (sym c.self.view_is) c.requires in
    let content_is = sym (get_or_from_slice_get c.self.inside.contents i _ [] c.index.ensures) ∙ c.self.invariant.present i below in
    let next_is = c.in_ok-next.ensures ∙ ap (λ (content : List ℕ). overwritten c.args.at c.args.piece.now content) (c.as_slice-content.ensures ∙ content_is) in
    rw (c.in_ok-push.ensures.ok, c.set.ensures, c.in_ok-copy.ensures)
    (present-after was i update c.self.inside.contents c.in_ok-next.next c.self.invariant below (next_is ∙ sym (content-next was i update)))
