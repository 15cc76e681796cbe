use Rattle.std.proofs.Common.{◌≡◌, ℕ, Some, Result, IfOk, map, slice_get, subst}
use Rattle.nego_expr.specs.Sorted.{plain_slot, slot_of, slot_cmp}
use Rattle.nego_expr.specs.WorkView.{plain_outcome}
use Rattle.nego_expr.proofs.RisingLists.{found_there}
use Rattle.nego_expr.proofs.SlotOrder.{slot_order}
use Rattle.nego_expr.proofs.slots.place_of_slot.Goals as goal

pub unwrap-requires : goal.unwrap-requires
unwrap-requires c = found_there slot_cmp slot_order (map plain_slot c.args.slots.now) (slot_of (plain_outcome c.args.x.now)) c.search.result c.requires.there c.search.ensures.err

pub returns : goal.returns
returns c =
    let y = slot_of (plain_outcome c.args.x.now) in
    subst (λ (r : Result ℕ ℕ). IfOk r (λ i. slice_get (map plain_slot c.args.slots.now) i ≡ Some y)) c.unwrap.ensures c.search.ensures.ok
