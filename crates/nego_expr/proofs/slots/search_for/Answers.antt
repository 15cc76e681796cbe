use Rattle.std.proofs.Common.{rules, ◌≡◌, ◌≤◌, Some, IfOk, IfErr, length, map, slice_get}
use Rattle.std.specs.List.Sorted.{IsPartitionPoint}
use Rattle.std.specs.declared.cmp.Ordering.TheVariants.{Less, Greater}
use Rattle.std.proofs.lemmas.Fn.{always_returns_same}
use Rattle.nego_expr.specs.Sorted.{PlainSlot, plain_slot, slot_cmp}
use Rattle.nego_expr.proofs.RisingLists.{searched}
use Rattle.nego_expr.proofs.SlotOrder.{slot_order, exact_slots}
use Rattle.nego_expr.proofs.slots.search_for.Goals as goal

-- the slot that is sought
abbrev sought : goal.After-binary_search_by → PlainSlot
sought c = record { atom = c.args.n.0; targets = c.args.targets.now; outcome = c.args.o.0 }

-- what the search finds
finds : (c : goal.After-binary_search_by) →
    IfOk c.binary_search_by.result (λ i. slice_get (map plain_slot c.args.slots.now) i ≡ Some (sought c))
    × IfErr c.binary_search_by.result (λ i. (i ≤ length c.args.slots.now)
    × IsPartitionPoint (λ s. slot_cmp s (sought c) ≡ Less) (λ s. slot_cmp s (sought c) ≡ Greater) (map plain_slot c.args.slots.now) i)
finds c =
    let facts = c.binary_search_by.ensures in
    let by_slot = facts.position (λ s. slot_cmp (plain_slot s) (sought c)) (always_returns_same _ _ _ (λ a r g called. search rules)) in
    searched slot_cmp slot_order plain_slot exact_slots c.args.slots.now (sought c) c.binary_search_by.result c.requires facts.bound by_slot

pub returns-clause-ok : goal.returns-clause-ok
returns-clause-ok c = (finds c).0

pub returns-clause-err : goal.returns-clause-err
returns-clause-err c = search ((finds c).1, rules)
