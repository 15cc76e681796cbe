use Rattle.std.specs.Prelude.{slice_index}
use Rattle.std.proofs.lemmas.Bool.{and_parts}
use Rattle.nego_base.specs.Members.{is_in}
use Rattle.nego_base.proofs.Members.{is_in-difference}
use Rattle.std.proofs.Common.{not, cond, IsTrue, ◌+◌, ◌≡◌, ◌≢◌, ◌↔◌, ◌⊎◌, ◌<◌, ℕ, List, arith, refl, Option, Some, length, map, option_map, slice_get, slice_index_or, sym, subst, ap, IfSome, ◌∙◌}
use Rattle.std.proofs.Math.Seq.{map-set_same}
use Rattle.std.proofs.lemmas.List.{map-set}
use Rattle.std.proofs.lemmas.Option.{slice_get-map, slice_get_read}
use Rattle.std.specs.List.{Contains}
use Rattle.nego_expr.specs.declared.outcome.Outcome.{Outcome}
use Rattle.nego_expr.specs.Work.{WorkOutcome, outcome_among}
use Rattle.nego_expr.specs.Edits.{with_outcome}
use Rattle.nego_expr.specs.Room.{RoomyWork}
use Rattle.nego_expr.specs.Sorted.{PlainSlot, slot_of, AreMembersOf, AreSlotsOf}
use Rattle.nego_expr.specs.WorkView.{atom_number, plain_outcome, plain_work, AreAlive}
use Rattle.nego_expr.specs.Counts.{AreCountsOf, AreEntriesOf}
use Rattle.nego_expr.proofs.Entries.{entries-set, entries_room, entries_some}
use Rattle.nego_expr.proofs.Places.{set-found}
use Rattle.nego_expr.proofs.WorkEdits.{All-found, found-number}
use Rattle.nego_expr.proofs.MembersOf.{members-set}
use Rattle.nego_expr.proofs.SlotsOf.{slot-found, slots-set}
use Rattle.nego_expr.proofs.UsableWorks.{alive-set, few_outcomes}
use Rattle.nego_expr.proofs.work.Work.set_outcome.Goals as goal
use Rattle.nego_expr.proofs.work.Work.set_outcome.Goals.{After-index-outcomes-i}

-- the outcome that is set
abbrev old : After-index-outcomes-i → WorkOutcome
old c = plain_outcome c.index-outcomes-i.result

abbrev new : After-index-outcomes-i → WorkOutcome
new c = record (old c) { targets = c.args.targets; node = c.args.node.0; passed = c.args.passed }

there : (c : After-index-outcomes-i) → c.unwrap-i.result < length c.self.inside.outcomes.items
there c = subst (λ (xs : List Outcome). c.unwrap-i.result < length xs) c.as_slice-outcomes.ensures
    (subst (λ (r : Option ℕ). IfSome r (λ k. k < length c.as_slice-outcomes.result.now)) c.unwrap-i.ensures c.place_of.ensures.there)

place : (c : After-index-outcomes-i) → option_map plain_outcome (slice_get c.self.inside.outcomes.items c.unwrap-i.result) ≡ outcome_among (map plain_outcome c.self.inside.outcomes.items) c.args.o.0
place c = subst (λ (xs : List Outcome). option_map plain_outcome (slice_get xs c.unwrap-i.result) ≡ outcome_among (map plain_outcome xs) c.args.o.0) c.as_slice-outcomes.ensures
    (subst (λ (r : Option ℕ). IfSome r (λ k. option_map plain_outcome (slice_get c.as_slice-outcomes.result.now k) ≡ outcome_among (map plain_outcome c.as_slice-outcomes.result.now) c.args.o.0)) c.unwrap-i.ensures c.place_of.ensures.found)

read : (c : After-index-outcomes-i) → c.index-outcomes-i.result ≡ slice_index_or c.self.inside.outcomes.items c.unwrap-i.result c.index-outcomes-i.result
read c = subst (λ (xs : List Outcome). c.index-outcomes-i.result ≡ slice_index_or xs c.unwrap-i.result c.index-outcomes-i.result) c.as_slice-outcomes.ensures c.index-outcomes-i.is

found : (c : After-index-outcomes-i) → outcome_among (map plain_outcome c.self.inside.outcomes.items) c.args.o.0 ≡ Some (old c)
found c = sym (place c) ∙ ap (option_map plain_outcome) (slice_get_read c.self.inside.outcomes.items (length c.self.inside.outcomes.items) c.unwrap-i.result c.index-outcomes-i.result refl (there c) (read c))

at : (c : After-index-outcomes-i) → slice_get (map plain_outcome c.self.inside.outcomes.items) c.unwrap-i.result ≡ Some (old c)
at c =
    let items = c.self.inside.outcomes.items in
    slice_get-map plain_outcome items c.unwrap-i.result ∙ ap (option_map plain_outcome) (slice_get_read items (length items) c.unwrap-i.result c.index-outcomes-i.result refl (there c) (read c))

-- the outcomes after the edit
after : (c : goal.After-set) → map plain_outcome c.set.new.self.items ≡ with_outcome (new (goal.at.invariant_of-self c).After-index-outcomes-i) (map plain_outcome c.self.inside.outcomes.items)
after c =
    let b = (goal.at.invariant_of-self c).After-index-outcomes-i in
    let items = c.self.inside.outcomes.items in
    let y : Outcome = record { number = c.args.o; atom = c.index-outcomes-i.result.atom; targets = c.args.targets; node = c.args.node; passed = c.args.passed } in
    ap (map plain_outcome) c.set.ensures.items
    ∙ (set-found plain_outcome items c.args.o.0 c.unwrap-i.result c.index-outcomes-i.result y c.self.invariant.alive.rising (there b) (read b) (place b) refl
    ∙ ap (λ n. with_outcome (record (new b) { number = n }) (map plain_outcome items)) (sym (found-number (map plain_outcome items) c.args.o.0 (old b) (found b))))

pub replace-requires : goal.replace-requires
replace-requires c =
    let w = c.self.inside in
    let b = (goal.at.replace-requires c).After-index-outcomes-i in
    slot-found (map plain_outcome w.outcomes.items) c.self.invariant.alive.rising c.args.o.0 (old b) (found b) w.slots.items c.self.invariant.sorted

pub remove_each-requires : goal.remove_each-requires
remove_each-requires c m in_old =
    let w = c.self.inside in
    let b = (goal.at.remove_each-requires c).After-index-outcomes-i in
    let left = subst (λ s. IsTrue (is_in m s)) c.difference.ensures.value in_old in
    let parts = and_parts (not (is_in m c.entered-after.result)) (is_in m c.entered-before.result) (sym (is_in-difference m c.entered-before.result c.entered-after.result) ∙ left) in
    entries_some (old b) c.entered-before.result c.entered-before.ensures (map plain_outcome w.outcomes.items) w.entries c.self.invariant.entered b.unwrap-i.result (at b) m parts.1

pub add_each-requires : goal.add_each-requires
add_each-requires c m in_new =
    let w = c.self.inside in
    let b = (goal.at.add_each-requires c).After-index-outcomes-i in
    let room = entries_room (old b) c.entered-before.result c.entered-before.ensures (map plain_outcome w.outcomes.items) w.entries c.self.invariant.entered b.unwrap-i.result (at b) (record (new b) { number = c.args.o.0 }) c.entered-after.result c.entered-after.ensures c.remove_each.new.self
    (subst (λ s. (k : ℕ) → slice_index w.entries k ≡ slice_index c.remove_each.new.self k + cond (is_in k s) 1 0) c.difference.ensures.value c.remove_each.ensures) m (subst (λ s. IsTrue (is_in m s)) c.difference-2.ensures.value in_new) in
    omega (arith, room, few_outcomes w c.self.invariant, c.self.invariant.few_numbers)

pub invariant_of-self : goal.invariant_of-self
invariant_of-self c =
    let b = (goal.at.invariant_of-self c).After-index-outcomes-i in
    let w = c.self.inside in
    let outcomes = map plain_outcome w.outcomes.items in
    let fit = λ (v : RoomyWork). length c.args.targets ≡ v.plain.agents in
    let node = λ (v : RoomyWork). c.args.node.0 < length v.plain.nodes in
    let same : (old b).number ≡ c.args.o.0 = found-number outcomes c.args.o.0 (old b) (found b) in
    record {
      few_agents = c.self.invariant.few_agents;
      few_atoms = c.self.invariant.few_atoms;
      left_below = c.self.invariant.left_below;
      alive = subst (AreAlive w.agents w.numbers (length w.nodes.nodes)) (sym (after c))
          (alive-set w.agents w.numbers (length w.nodes.nodes) outcomes c.self.invariant.alive (new b) (All-found (λ x. x.number < w.numbers) outcomes c.args.o.0 (old b) c.self.invariant.alive.used (found b))
          (subst fit (sym c.self.view_is) c.requires.fit) (subst node (sym c.self.view_is) c.requires.there));
      few_numbers = c.self.invariant.few_numbers;
      sorted = subst (λ os. AreSlotsOf os c.replace.new.self.items) (sym (after c))
          (slots-set outcomes c.self.invariant.alive.rising c.args.o.0 (old b) (found b) w.slots.items c.self.invariant.sorted (new b) same c.replace.new.self.items
          (subst (λ n. (slot : PlainSlot) → Contains c.replace.new.self.items slot ↔ ((Contains w.slots.items slot × (slot ≢ slot_of (old b))) ⊎ (slot ≡ slot_of (record (new b) { number = n })))) (sym same) c.replace.ensures.items));
      members = subst (λ os. AreMembersOf os w.members.items) (sym (after c))
          (members-set outcomes c.self.invariant.alive.rising c.args.o.0 (old b) (found b) (new b) same refl w.members.items c.self.invariant.members);
      counted = subst (λ ns. AreCountsOf ns w.counts)
          (sym (ap (map atom_number) c.set.ensures.items ∙ map-set_same atom_number w.outcomes.items c.unwrap-i.result _ c.index-outcomes-i.result (ap atom_number (read b)))) c.self.invariant.counted;
      entered = subst (λ os. AreEntriesOf os c.add_each.new.self) (sym (ap (map plain_outcome) c.set.ensures.items ∙ map-set plain_outcome w.outcomes.items c.unwrap-i.result _))
          (entries-set (old b) c.entered-before.result c.entered-before.ensures outcomes w.entries c.self.invariant.entered b.unwrap-i.result (at b) (record (new b) { number = c.args.o.0 }) c.entered-after.result c.entered-after.ensures
          c.remove_each.new.self (subst (λ s. (k : ℕ) → slice_index w.entries k ≡ slice_index c.remove_each.new.self k + cond (is_in k s) 1 0) c.difference.ensures.value c.remove_each.ensures)
          c.add_each.new.self (subst (λ s. (k : ℕ) → slice_index c.add_each.new.self k ≡ slice_index c.remove_each.new.self k + cond (is_in k s) 1 0) c.difference-2.ensures.value c.add_each.ensures));
    }

pub returns-clause-plain : goal.returns-clause-plain
returns-clause-plain c =
    let b = (goal.at.invariant_of-self c).After-index-outcomes-i in
    let w = plain_work c.self.inside in
    rw (← c.self.view_is) (ap (λ outcomes. Some (record w { outcomes = outcomes })) (after c)
    ∙ sym (ap (option_map (λ x. record w { outcomes = with_outcome (record x { targets = c.args.targets; node = c.args.node.0; passed = c.args.passed }) w.outcomes })) (found b)))
