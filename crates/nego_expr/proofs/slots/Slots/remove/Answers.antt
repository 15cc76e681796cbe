use Rattle.std.proofs.Common.{◌≡◌, ◌≢◌, ◌↔◌, ◌<◌, List, Some, map, slice_get, sym, subst, ap, ◌∙◌}
use Rattle.std.specs.List.{AllPairs, Contains, remove}
use Rattle.std.proofs.lemmas.List.{length-map}
use Rattle.std.proofs.lemmas.List.Quantifiers.{all_pairs_remove}
use Rattle.std.proofs.lemmas.Option.{slice_get_within}
use Rattle.nego_base.specs.Room.{WithRoom}
use Rattle.nego_expr.specs.declared.slots.Slot.{Slot}
use Rattle.nego_expr.specs.Sorted.{PlainSlot, plain_slot, slot_of, slot_cmp, IsBelow}
use Rattle.nego_expr.specs.WorkView.{plain_outcome}
use Rattle.nego_expr.proofs.Places.{remove-seen}
use Rattle.nego_expr.proofs.RisingLists.{Contains-remove}
use Rattle.nego_expr.proofs.SlotOrder.{slot_order}
use Rattle.nego_expr.proofs.slots.Slots.remove.Goals as goal
use Rattle.nego_expr.proofs.slots.Slots.remove.Goals.{After-place_of_slot-i, After-remove}

pub place_of_slot-i-requires-clause-there : goal.place_of_slot-i-requires-clause-there
place_of_slot-i-requires-clause-there c =
    let y = slot_of (plain_outcome c.args.x.now) in
    let Among : List Slot → Type 0 = λ xs. Contains (map plain_slot xs) y in
    let there = λ (w : WithRoom PlainSlot). Contains w.items y in
    subst Among (sym c.as_slice.ensures) (subst there (sym c.self.view_is) c.requires)

-- the place of the slot
place : (c : After-place_of_slot-i) → slice_get (map plain_slot c.self.inside.slots.items) c.place_of_slot-i.result ≡ Some (slot_of (plain_outcome c.args.x.now))
place c =
    let y = slot_of (plain_outcome c.args.x.now) in
    let At : List Slot → Type 0 = λ xs. slice_get (map plain_slot xs) c.place_of_slot-i.result ≡ Some y in
    subst At c.as_slice.ensures c.place_of_slot-i.ensures

pub remove-requires : goal.remove-requires
remove-requires c =
    subst (λ n. c.place_of_slot-i.result < n) (length-map c.self.inside.slots.items plain_slot)
    (slice_get_within (map plain_slot c.self.inside.slots.items) c.place_of_slot-i.result (slot_of (plain_outcome c.args.x.now)) (place (goal.at.remove-requires c).After-place_of_slot-i))

-- the slots after the edit
after : (c : After-remove) → map plain_slot c.remove.new.self.items ≡ remove (map plain_slot c.self.inside.slots.items) c.place_of_slot-i.result
after c = ap (map plain_slot) c.remove.ensures.items ∙ remove-seen plain_slot c.self.inside.slots.items c.place_of_slot-i.result

pub invariant_of-self : goal.invariant_of-self
invariant_of-self c =
    subst (AllPairs IsBelow) (sym (after (goal.at.invariant_of-self c).After-remove))
    (all_pairs_remove IsBelow (map plain_slot c.self.inside.slots.items) c.place_of_slot-i.result
    (slice_get_within (map plain_slot c.self.inside.slots.items) c.place_of_slot-i.result (slot_of (plain_outcome c.args.x.now)) (place (goal.at.invariant_of-self c).After-place_of_slot-i)) c.self.invariant)

pub returns-clause-items : goal.returns-clause-items
returns-clause-items c =
    let xs = map plain_slot c.self.inside.slots.items in
    let y = slot_of (plain_outcome c.args.x.now) in
    rw (← c.self.view_is) (λ slot. subst (λ l. Contains l slot ↔ (Contains xs slot × (slot ≢ y))) (sym (after (goal.at.returns-clause-items c).After-remove))
    (Contains-remove slot_cmp slot_order xs c.place_of_slot-i.result y slot c.self.invariant (place (goal.at.returns-clause-items c).After-place_of_slot-i)))
