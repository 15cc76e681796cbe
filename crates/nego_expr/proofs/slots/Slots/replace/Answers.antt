use Rattle.std.proofs.Common.{◌≡◌, ◌≢◌, ◌↔◌, ◌⊎◌, subst}
use Rattle.std.specs.List.{Contains}
use Rattle.nego_expr.specs.Sorted.{PlainSlot, slot_of}
use Rattle.nego_expr.specs.WorkView.{plain_outcome}
use Rattle.nego_expr.proofs.SlotOrder.{same_slots}
use Rattle.nego_expr.proofs.slots.Slots.replace.Goals as goal

pub returns-then-are_alike-clause-items : goal.returns-then-are_alike-clause-items
returns-then-are_alike-clause-items c =
    let xs = c.args.self.now.items in
    let z = slot_of (plain_outcome c.args.old.now) in
    subst (λ y. (slot : PlainSlot) → Contains xs slot ↔ ((Contains xs slot × (slot ≢ z)) ⊎ (slot ≡ y))) (c.are_alike.ensures c.if-are_alike.true) (same_slots xs z c.requires)
