use Rattle.std.proofs.Common.{◌≡◌, ◌+◌, ◌-◌, List, map, Option, slice_get, Some, refl, sym, subst, ◌∙◌, arith}
use Rattle.std.proofs.lemmas.Bool.{true≢false}
use Rattle.std.proofs.lemmas.List.{length-map}
use Rattle.nego_base.specs.declared.ids.OutcomeId.{OutcomeId}
use Rattle.nego_expr.specs.Sorted.{PlainSlot, plain_slot}
use Rattle.nego_reduce.proofs.Twins.{IsLeastSoFar, so_far_kept, so_far_lesser, found_merge, found_no_merge, slot_at}
use Rattle.nego_reduce.proofs.merges.least_of_all.Goals as goal
use Rattle.nego_reduce.proofs.merges.least_of_all.Goals.{then-are_twins+then-is_below, else-are_twins, else-are_twins-via-then-are_twins+else-is_below, else-are_twins-via-else-are_twins}

pub loop-i-preserved : goal.loop-i-preserved
loop-i-preserved c =
    let work = c.args.w.now.plain in
    let slots : List PlainSlot = map plain_slot c.sorted-slots.result.now in
    let k = c.loop-i.i - 1 in
    let s = plain_slot c.index-slots-i.result in
    let t = plain_slot c.index-slots-i-in-loop-i.result in
    let from = c.loop-i.auto.i in
    let within = c.loop-i-test.true in
    let next : k + 1 ≡ c.loop-i.i = omega (arith, from) in
    let at_s : slice_get slots k ≡ Some s = slot_at c.sorted-slots.result.now k c.index-slots-i.result (omega (arith, from, within)) c.index-slots-i.is in
    let at_t : slice_get slots (k + 1) ≡ Some t = subst (λ n. slice_get slots n ≡ Some t) (sym next) (slot_at c.sorted-slots.result.now c.loop-i.i c.index-slots-i-in-loop-i.result within c.index-slots-i-in-loop-i.is) in
    let so_far : IsLeastSoFar work slots (k + 1) c.loop-i.least = subst (λ n. IsLeastSoFar work slots n c.loop-i.least) (sym next) c.loop-i.invariant in
    let After : Option (OutcomeId × OutcomeId) → Type 0 = λ least. IsLeastSoFar work slots (c.loop-i.i + 1) least in
    let there : (least : Option (OutcomeId × OutcomeId)) → IsLeastSoFar work slots (k + 1 + 1) least → After least = λ least h. subst (λ n. IsLeastSoFar work slots (n + 1) least) next h in
    elim c.if-are_twins.branch [
      | then-are_twins+then-is_below w ↦
          subst After (sym w.least-is) (there (Some (c.index-slots-i.result.outcome, c.index-slots-i-in-loop-i.result.outcome))
          (so_far_lesser work c.requires.work slots c.sorted-slots.ensures k s t at_s at_t c.loop-i.least (c.index-slots-i.result.outcome, c.index-slots-i-in-loop-i.result.outcome) refl refl
          (c.are_twins.ensures.0 w.if-are_twins.true) (w.is_below.ensures.0 w.if-is_below.true) so_far))
      | else-are_twins w ↦
          subst After (sym w.least-is) (there c.loop-i.least (so_far_kept work c.requires.work slots c.sorted-slots.ensures k s t at_s at_t c.loop-i.least
          (λ twins below. elim w.else-are_twins.branch [
            | else-are_twins-via-then-are_twins+else-is_below v ↦ true≢false (sym (v.is_below.ensures.1 below) ∙ v.if-is_below.false)
            | else-are_twins-via-else-are_twins v ↦ true≢false (sym (c.are_twins.ensures.1 twins) ∙ v.if-are_twins.false)
          ]) so_far))
    ]

pub returns-clause-some : goal.returns-clause-some
returns-clause-some c =
    let past = c.loop-i-test.false in
    let long = length-map c.sorted-slots.result.now plain_slot in
    found_merge c.args.w.now.plain c.requires.work (map plain_slot c.sorted-slots.result.now) c.sorted-slots.ensures c.loop-i.i c.loop-i.least (omega (arith, past, long)) c.loop-i.invariant

pub returns-clause-none : goal.returns-clause-none
returns-clause-none c =
    let past = c.loop-i-test.false in
    let long = length-map c.sorted-slots.result.now plain_slot in
    found_no_merge c.args.w.now.plain c.requires.work (map plain_slot c.sorted-slots.result.now) c.sorted-slots.ensures c.loop-i.i c.loop-i.least (omega (arith, past, long)) c.loop-i.invariant
