use Rattle.nego_expr.specs.Sorted.{slot_cmp}
use Rattle.nego_expr.proofs.RisingLists.{rising_lists_are_one}
use Rattle.nego_expr.proofs.SlotOrder.{slot_order}
use Rattle.nego_expr.proofs.laws.sorted_slots_are_one.Goals as goal

pub returns : goal.returns
returns c = λ outcomes one two h k.
    rising_lists_are_one slot_cmp slot_order one two h.rise k.rise (λ slot. (λ x. (k.same slot).1 ((h.same slot).0 x), λ x. (h.same slot).1 ((k.same slot).0 x)))
