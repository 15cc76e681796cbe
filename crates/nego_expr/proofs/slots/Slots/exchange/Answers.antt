use Rattle.std.proofs.Common.{◌≡◌, ◌≢◌, ◌↔◌, ◌⊎◌, inl, inr, ⊎_elim, ◌<◌, ◌≤◌, List, Some, length, map, slice_get, sym, subst, arith}
use Rattle.std.specs.List.{AllPairs, Contains, remove}
use Rattle.std.specs.List.Sorted.{IsPartitionPoint}
use Rattle.std.specs.declared.cmp.Ordering.TheVariants.{Less, Greater}
use Rattle.std.proofs.lemmas.List.{length-map}
use Rattle.std.proofs.lemmas.Option.{slice_get_within}
use Rattle.nego_expr.specs.declared.slots.Slot.{Slot}
use Rattle.nego_expr.specs.Sorted.{PlainSlot, plain_slot, slot_of, slot_cmp, IsBelow}
use Rattle.nego_expr.specs.WorkView.{plain_outcome}
use Rattle.nego_expr.proofs.Gaps.{point-before, point-behind, replaced}
use Rattle.nego_expr.proofs.SlotOrder.{slot_order}
use Rattle.nego_expr.proofs.slots.Slots.exchange.Goals as goal
use Rattle.nego_expr.proofs.slots.Slots.exchange.Goals.{then-from-i, else-from-i}

-- the slots after the edit rise, and are those before it, one for another
stands : (c : goal.After-put_instead) →
    AllPairs IsBelow (map plain_slot c.put_instead.new.slots.items)
    × ((slot : PlainSlot) → Contains (map plain_slot c.put_instead.new.slots.items) slot ↔
    ((Contains (map plain_slot c.self.inside.slots.items) slot × (slot ≢ slot_of (plain_outcome c.args.old.now))) ⊎ (slot ≡ slot_of (plain_outcome c.args.new.now))))
stands c =
    let xs = map plain_slot c.self.inside.slots.items in
    let from = c.place_of_slot-from.result in
    let i = c.in-Err.i in
    let to = c.if-from-i.to in
    let z = slot_of (plain_outcome c.args.old.now) in
    let y = slot_of (plain_outcome c.args.new.now) in
    let IsLower : PlainSlot → Type 0 = λ s. slot_cmp s y ≡ Less in
    let IsHigher : PlainSlot → Type 0 = λ s. slot_cmp s y ≡ Greater in
    let At : List Slot → Type 0 = λ ss. slice_get (map plain_slot ss) from ≡ Some z in
    let Within : List Slot → Type 0 = λ ss. i ≤ length ss in
    let Parts : List Slot → Type 0 = λ ss. IsPartitionPoint IsLower IsHigher (map plain_slot ss) i in
    let at : slice_get xs from ≡ Some z = subst At c.as_slice.ensures c.place_of_slot-from.ensures in
    let parts : IsPartitionPoint IsLower IsHigher xs i = subst Parts c.as_slice-2.ensures c.in-Err.ensures.err in
    let within : i ≤ length xs = subst (λ n. i ≤ n) (sym (length-map c.self.inside.slots.items plain_slot)) (subst Within c.as_slice-2.ensures c.in-Err.ensures.within) in
    let there : from < length xs = slice_get_within xs from z at in
    let to_within : to < length xs = elim c.if-from-i.branch [
      | then-from-i w ↦ omega (arith, w.if-from-i, w.to-is, within)
      | else-from-i w ↦ omega (arith, w.if-from-i, w.to-is, there)
    ] in
    let others : IsPartitionPoint IsLower IsHigher (remove xs from) to = elim c.if-from-i.branch [
      | then-from-i w ↦ point-behind IsLower IsHigher xs from i to (omega (arith, w.if-from-i)) (omega (arith, w.if-from-i, w.to-is)) there parts
      | else-from-i w ↦ subst (IsPartitionPoint IsLower IsHigher (remove xs from)) (sym w.to-is) (point-before IsLower IsHigher xs from i (omega (arith, w.if-from-i)) there parts)
    ] in
    replaced slot_cmp slot_order xs (map plain_slot c.put_instead.new.slots.items) from to z y c.self.invariant at to_within others c.put_instead.ensures.items

pub invariant_of-self : goal.invariant_of-self
invariant_of-self c = (stands c).0

pub returns-after-from-i-clause-items : goal.returns-after-from-i-clause-items
returns-after-from-i-clause-items c = rw (← c.self.view_is) (stands c).1

pub returns-in-Ok-clause-items : goal.returns-in-Ok-clause-items
returns-in-Ok-clause-items c = λ slot. (
  λ h. ⊎_elim (λ k. inl ((c.remove.ensures.items slot).0 k)) (λ e. inr e) ((c.insert.ensures.items slot).0 h),
  λ h. (c.insert.ensures.items slot).1 (⊎_elim (λ k. inl ((c.remove.ensures.items slot).1 k)) (λ e. inr e) h),
)
