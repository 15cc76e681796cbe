use Rattle.std.proofs.Common.{◌<◌, List, ℕ, [], take, length, Option, Some, sym, ◌∙◌, ap, subst}
use Rattle.std.proofs.lemmas.Option.{get_or_from_slice_get}
use Rattle.nego_io.specs.MemDisks.{MemDisksState}
use Rattle.nego_io.specs.declared.change.Update.{Update}
use Rattle.nego_io.specs.declared.change.Update.TheVariants.{Cut}
use Rattle.nego_io.proofs.DiskLaws.{present-after, content-next}
use Rattle.nego_io.proofs.mem_disks.MemDisks.shorten.Goals as goal

pub invariant_of-self-2 : goal.invariant_of-self-2
invariant_of-self-2 c =
    let i = c.args.i in
    let update : Option Update = Some (Cut c.args.to) in
    let was : MemDisksState = record { first = c.self.inside.first; changes = c.self.inside.changes; calls = c.self.inside.calls } in
    let below : i < length was.first = subst (λ (s : MemDisksState). i < length s.first) (sym c.self.view_is) c.requires in
    let content_is = sym (get_or_from_slice_get c.self.inside.contents i _ [] c.index_mut.ensures.value) ∙ c.self.invariant.present i below in
    let next_is = c.truncate.ensures ∙ ap (λ (content : List ℕ). take c.args.to content) content_is in
    rw (c.in_ok-push.ensures.ok)
    (present-after was i update c.self.inside.contents c.truncate.new.self c.self.invariant below (next_is ∙ sym (content-next was i update)))
