use Rattle.std.proofs.Common.{◌≡◌, ◌==◌, ℕ, [], List, Option, Some, length, map, slice_get, option_map, refl, sym, subst, ap, ◌∙◌, eqb-true}
use Rattle.std.specs.List.{All}
use Rattle.std.specs.List.Sorted.{IsPartitionPoint}
use Rattle.std.specs.declared.cmp.Ordering.TheVariants.{Less, Greater}
use Rattle.std.proofs.lemmas.Bool.{eqb-false, not-false, not-true}
use Rattle.std.proofs.lemmas.List.Elements.{All-contains}
use Rattle.std.proofs.lemmas.Option.{slice_get-map, slice_get_read}
use Rattle.nego_base.specs.Room.{WithRoom}
use Rattle.nego_expr.specs.declared.slots.Slot.{Slot}
use Rattle.nego_expr.specs.Sorted.{PlainSlot, plain_slot, slot_cmp, member}
use Rattle.nego_expr.proofs.NextOf.{next-itself, next-other, next-here}
use Rattle.nego_expr.proofs.RisingLists.{Contains-place}
use Rattle.nego_expr.proofs.slots.Slots.next_of.Goals as goal
use Rattle.nego_expr.proofs.slots.Slots.next_of.Goals.{After-ne}

module _ (c : After-ne) where
  abbrev xs : List PlainSlot
  xs = map plain_slot c.self.inside.slots.items

  abbrev i : ℕ
  i = c.in-Err.i

  abbrev n : ℕ
  n = c.args.n.0

  abbrev from : ℕ
  from = c.args.from.0

  abbrev slot : PlainSlot
  slot = plain_slot c.in_ok-slot-in-Err.slot.now

  parts : IsPartitionPoint (λ s. slot_cmp s (member n from) ≡ Less) (λ s. slot_cmp s (member n from) ≡ Greater) xs i
  parts =
      subst (λ (ss : List Slot). IsPartitionPoint (λ s. slot_cmp s (member n from) ≡ Less) (λ s. slot_cmp s (member n from) ≡ Greater) (map plain_slot ss) i) c.as_slice-slots.ensures
      (subst (λ (ts : List (Option ℕ)). IsPartitionPoint (λ s. slot_cmp s (record { atom = n; targets = ts; outcome = from }) ≡ Less) (λ s. slot_cmp s (record { atom = n; targets = ts; outcome = from }) ≡ Greater) (map plain_slot c.as_slice-slots.result.now) i)
      c.none.ensures c.in-Err.ensures.err)

  here : slice_get xs i ≡ Some slot
  here = slice_get-map plain_slot c.self.inside.slots.items i ∙ ap (option_map plain_slot) (subst (λ (ss : List Slot). slice_get ss i ≡ Some c.in_ok-slot-in-Err.slot.now) c.as_slice-slots.ensures
      (let read = c.in_ok-slot-in-Err.ensures.lookup in slice_get_read c.as_slice-slots.result.now (length c.as_slice-slots.result.now) i c.in_ok-slot-in-Err.slot.now refl read.3.0 read.1))

  none : All (λ (s : PlainSlot). s.targets ≡ []) xs
  none = let bare = λ (w : WithRoom PlainSlot). All (λ (s : PlainSlot). s.targets ≡ []) w.items in subst bare (sym c.self.view_is) c.requires

pub returns-then-ne-clause-none : goal.returns-then-ne-clause-none
returns-then-ne-clause-none c =
    let b = (goal.at.returns-then-ne-clause-none c).After-ne in
    rw (← c.self.view_is) (next-other (xs b) (n b) (from b) (i b) c.self.invariant (parts b) (slot b) (here b)
    (eqb-false (slot b).atom (n b) (not-true ((slot b).atom == n b) (sym c.ne.ensures ∙ c.if-ne.true))))

pub returns-in-Ok-clause-found : goal.returns-in-Ok-clause-found
returns-in-Ok-clause-found c = rw (← c.self.view_is) (next-itself (map plain_slot c.self.inside.slots.items) c.args.n.0 c.args.from.0
    (Contains-place (map plain_slot c.self.inside.slots.items) c.in-Ok.field-0 (member c.args.n.0 c.args.from.0)
    (subst (λ (ss : List Slot). slice_get (map plain_slot ss) c.in-Ok.field-0 ≡ Some (member c.args.n.0 c.args.from.0)) c.as_slice-slots.ensures
    (subst (λ (ts : List (Option ℕ)). slice_get (map plain_slot c.as_slice-slots.result.now) c.in-Ok.field-0 ≡ Some (record { atom = c.args.n.0; targets = ts; outcome = c.args.from.0 })) c.none.ensures c.in-Ok.ensures.ok))))

pub returns-else-ne-clause-found : goal.returns-else-ne-clause-found
returns-else-ne-clause-found c =
    let b = (goal.at.returns-else-ne-clause-found c).After-ne in
    rw (← c.self.view_is) (next-here (xs b) (n b) (from b) (i b) c.self.invariant (parts b) (slot b) (here b)
    (eqb-true (slot b).atom (n b) (not-false ((slot b).atom == n b) (sym c.ne.ensures ∙ c.if-ne.false))) (All-contains (λ s. s.targets ≡ []) (xs b) (slot b) (none b) (Contains-place (xs b) (i b) (slot b) (here b))))
