use Rattle.std.proofs.Common.{sym, ◌∙◌}
use Rattle.nego_expr.specs.Sorted.{plain_slot, slot_of}
use Rattle.nego_expr.specs.WorkView.{plain_outcome}
use Rattle.nego_expr.proofs.SlotOrder.{equal_is, exact_slots}
use Rattle.nego_expr.proofs.slots.are_alike.Goals as goal

pub returns : goal.returns
returns c h =
    sym c.of.ensures
    ∙ exact_slots (plain_slot c.of.result) (slot_of (plain_outcome c.args.y.now)) (sym c.compare.ensures ∙ equal_is c.compare.result (sym c.is_eq.ensures ∙ h))
