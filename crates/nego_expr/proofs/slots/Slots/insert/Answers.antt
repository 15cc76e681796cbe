use Rattle.std.proofs.Common.{◌≡◌, ◌↔◌, ◌⊎◌, inl, ⊎_elim, ◌≤◌, List, Some, length, map, slice_get, sym, subst, ap, ◌∙◌}
use Rattle.std.specs.List.{AllPairs, Contains, insert}
use Rattle.std.specs.List.Sorted.{IsPartitionPoint}
use Rattle.std.specs.declared.cmp.Ordering.TheVariants.{Less, Greater}
use Rattle.std.proofs.lemmas.List.{length-map}
use Rattle.nego_expr.specs.declared.slots.Slot.{Slot}
use Rattle.nego_expr.specs.Sorted.{plain_slot, slot_of, slot_cmp, IsBelow}
use Rattle.nego_expr.specs.WorkView.{plain_outcome}
use Rattle.nego_expr.proofs.Places.{insert-seen}
use Rattle.nego_expr.proofs.RisingLists.{Contains-insert, Contains-place, rises-insert}
use Rattle.nego_expr.proofs.SlotOrder.{slot_order}
use Rattle.nego_expr.proofs.slots.Slots.insert.Goals as goal

-- the slots after the edit
after : (c : goal.After-insert) → map plain_slot c.insert.new.self.items ≡ insert (map plain_slot c.self.inside.slots.items) c.in-Err.i (slot_of (plain_outcome c.args.x.now))
after c =
    ap (map plain_slot) c.insert.ensures.items
    ∙ (insert-seen plain_slot c.self.inside.slots.items c.in-Err.i c.of.result ∙ ap (insert (map plain_slot c.self.inside.slots.items) c.in-Err.i) c.of.ensures)

pub invariant_of-self : goal.invariant_of-self
invariant_of-self c =
    let y = slot_of (plain_outcome c.args.x.now) in
    let Within : List Slot → Type 0 = λ xs. c.in-Err.i ≤ length xs in
    let Parts : List Slot → Type 0 = λ xs. IsPartitionPoint (λ s. slot_cmp s y ≡ Less) (λ s. slot_cmp s y ≡ Greater) (map plain_slot xs) c.in-Err.i in
    subst (AllPairs IsBelow) (sym (after c))
    (rises-insert slot_cmp slot_order (map plain_slot c.self.inside.slots.items) c.in-Err.i y c.self.invariant
    (subst (λ n. c.in-Err.i ≤ n) (sym (length-map c.self.inside.slots.items plain_slot)) (subst Within c.as_slice.ensures c.in-Err.ensures.within)) (subst Parts c.as_slice.ensures c.in-Err.ensures.err))

pub returns-in-Err-clause-items : goal.returns-in-Err-clause-items
returns-in-Err-clause-items c =
    let xs = map plain_slot c.self.inside.slots.items in
    let y = slot_of (plain_outcome c.args.x.now) in
    rw (← c.self.view_is) (λ slot. subst (λ l. Contains l slot ↔ (Contains xs slot ⊎ (slot ≡ y))) (sym (after c)) (Contains-insert xs c.in-Err.i y slot))

-- the slot that is found is one of them
there : (c : goal.In_default) → Contains (map plain_slot c.self.inside.slots.items) (slot_of (plain_outcome c.args.x.now))
there c =
    let y = slot_of (plain_outcome c.args.x.now) in
    let At : List Slot → Type 0 = λ xs. slice_get (map plain_slot xs) c.in_default.field-0 ≡ Some y in
    Contains-place (map plain_slot c.self.inside.slots.items) c.in_default.field-0 y (subst At c.as_slice.ensures c.in_default.ensures.ok)

pub returns-in_default-clause-items : goal.returns-in_default-clause-items
returns-in_default-clause-items c =
    rw (← c.self.view_is) (λ slot. (λ h. inl h, λ h. ⊎_elim (λ k. k) (λ e. subst (Contains (map plain_slot c.self.inside.slots.items)) (sym e) (there c)) h))

pub returns-in_default-clause-room : goal.returns-in_default-clause-room
returns-in_default-clause-room c = rw (← c.self.view_is) (λ none. absurd (none (there c)))
