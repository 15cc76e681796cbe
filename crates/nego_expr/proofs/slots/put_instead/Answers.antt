use Rattle.std.proofs.Common.{◌≡◌, ◌<◌, length, map, sym, subst, ap, ap₂, ◌∙◌, arith}
use Rattle.std.specs.List.{insert, remove, swap}
use Rattle.std.proofs.lemmas.List.{length-map, map-set}
use Rattle.std.proofs.lemmas.List.Edits.{length-swap}
use Rattle.nego_expr.specs.Sorted.{plain_slot}
use Rattle.nego_expr.proofs.Gaps.{gap-down, gap-swap, gap-up, set-gap}
use Rattle.nego_expr.proofs.slots.put_instead.Goals as goal
use Rattle.nego_expr.proofs.slots.put_instead.Goals.{then-gap-to, else-gap-to}

pub loop-gap-preserved : goal.loop-gap-preserved
loop-gap-preserved c =
    let items = c.loop-gap.slots.items in
    let gap = c.loop-gap.gap in
    let next = c.if-gap-to.next in
    let same : length items ≡ length c.args.slots.now.items = c.loop-gap.invariant.1 in
    let within : next < length items = elim c.if-gap-to.branch [
      | then-gap-to w ↦ omega (arith, w.if-gap-to, w.next-is, c.requires.to, same)
      | else-gap-to w ↦ omega (arith, w.if-gap-to, w.next-is, c.loop-gap.invariant.0, c.loop-gap-test.true)
    ] in
    let there : gap < length items = c.loop-gap.invariant.0 in
    let moved : remove (map plain_slot (swap items gap next)) next ≡ remove (map plain_slot items) gap =
    gap-swap plain_slot items gap next there within (λ y at. elim c.if-gap-to.branch [
      | then-gap-to w ↦ gap-up (map plain_slot items) gap next y w.next-is at
      | else-gap-to w ↦ gap-down (map plain_slot items) gap next y (omega (arith, w.if-gap-to, w.next-is, c.loop-gap-test.true))
          (subst (λ n. gap < n) (sym (length-map items plain_slot)) there) at
    ]) in
    let long : length c.swap.new.self.items ≡ length items = ap length c.swap.ensures.items ∙ length-swap items gap next in (
      subst (λ n. next < n) (sym long) within,
      long ∙ same,
      c.swap.ensures.room ∙ c.loop-gap.invariant.2,
      ap (λ xs. remove (map plain_slot xs) next) c.swap.ensures.items ∙ (moved ∙ c.loop-gap.invariant.3),
    )

pub returns-clause-items : goal.returns-clause-items
returns-clause-items c =
    let items = c.loop-gap.slots.items in
    let to = c.args.to in
    let before = map plain_slot c.args.slots.now.items in
    let there : c.loop-gap.gap ≡ to = c.loop-gap-test.false in
    let rest : remove (map plain_slot items) to ≡ remove before c.args.from = subst (λ g. remove (map plain_slot items) g ≡ remove before c.args.from) there c.loop-gap.invariant.3 in
    let within : to < length (map plain_slot items) = subst (λ n. to < n) (sym (length-map items plain_slot ∙ c.loop-gap.invariant.1)) c.requires.to in
    ap (map plain_slot) c.set.ensures.items
    ∙ (map-set plain_slot items to c.of.result
    ∙ (set-gap (map plain_slot items) to (plain_slot c.of.result) within ∙ ap₂ (λ xs y. insert xs to y) rest c.of.ensures))
