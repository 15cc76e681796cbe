use Rattle.std.proofs.Common.{◌≡◌, ◌+◌, ◌-◌, ◌<◌, ◌∙◌, [], ◌∷◌, ◌++◌, length, map, refl, sym, subst, ap, arith}
use Rattle.std.proofs.lemmas.List.{map-append}
use Rattle.nego_expr.specs.Work.{WorkOutcome}
use Rattle.nego_expr.specs.Room.{RoomyWork}
use Rattle.nego_expr.specs.Sorted.{AreMembersOf, AreSlotsOf}
use Rattle.nego_expr.specs.WorkView.{atom_number, plain_outcome, AreAlive}
use Rattle.nego_expr.specs.Counts.{AreCountsOf, AreEntriesOf}
use Rattle.nego_expr.proofs.MembersOf.{members-add, unused_member}
use Rattle.nego_expr.proofs.SlotsOf.{slots-add, unused_slot}
use Rattle.nego_expr.proofs.Counting.{counts-add}
use Rattle.nego_expr.proofs.Entries.{entries-add, entries_few}
use Rattle.nego_expr.proofs.UsableWorks.{alive-add, few_counted, few_outcomes, left_few}
use Rattle.nego_expr.proofs.work.Work.add_outcome.Goals as goal

pub invariant_of-self : goal.invariant_of-self
invariant_of-self c =
    let w = c.self.inside in
    let ys = map plain_outcome w.outcomes.items in
    let new : WorkOutcome = record { number = w.numbers; atom = c.args.n.0; targets = c.args.targets; node = c.args.node.0; passed = c.args.passed } in
    let fit = λ (v : RoomyWork). length c.args.targets ≡ v.plain.agents in
    let there = λ (v : RoomyWork). c.args.node.0 < length v.plain.nodes in
    let seen : map plain_outcome c.push.new.self.items ≡ ys ++ new ∷ [] = ap (map plain_outcome) c.push.ensures.items ∙ map-append plain_outcome w.outcomes.items _ in
    let spare = λ (v : RoomyWork). 0 < v.spare_outcomes in
    let more = subst spare (sym c.self.view_is) c.requires.spare in
    record {
      few_agents = c.self.invariant.few_agents;
      few_atoms = c.self.invariant.few_atoms;
      left_below = c.self.invariant.left_below;
      alive = subst (AreAlive w.agents (w.numbers + 1) (length w.nodes.nodes)) (sym seen)
          (alive-add w.agents w.numbers (length w.nodes.nodes) ys c.self.invariant.alive c.args.n.0 c.args.targets c.args.node.0 c.args.passed
          (subst fit (sym c.self.view_is) c.requires.fit) (subst there (sym c.self.view_is) c.requires.there));
      few_numbers = omega (arith, more);
      sorted = subst (λ os. AreSlotsOf os c.insert.new.self.items) (sym seen) (slots-add ys new w.slots.items c.insert.new.self.items c.self.invariant.sorted c.insert.ensures.items);
      members = subst (λ os. AreMembersOf os c.insert-2.new.self.items) (sym seen)
          (members-add ys new (plain_outcome c.without_targets.result) w.members.items c.insert-2.new.self.items c.self.invariant.members c.without_targets.ensures c.insert-2.ensures.items);
      counted = subst (λ ns. AreCountsOf ns c.add.new.self) (sym (ap (map atom_number) c.push.ensures.items ∙ map-append atom_number w.outcomes.items _))
          (counts-add (map atom_number w.outcomes.items) w.counts c.add.new.self c.args.n.0 c.self.invariant.counted c.add.ensures);
      entered = subst (λ os. AreEntriesOf os c.add_each.new.self) (sym seen) (entries-add new c.entered.result c.entered.ensures ys w.entries c.self.invariant.entered c.add_each.new.self c.add_each.ensures);
    }

pub add-requires-clause-atom : goal.add-requires-clause-atom
add-requires-clause-atom c = left_few c.self.inside c.args.self.now c.args.n.0 c.self.invariant c.self.view_is c.requires.left

pub add-requires-clause-few : goal.add-requires-clause-few
add-requires-clause-few c =
    let spare = λ (v : RoomyWork). 0 < v.spare_outcomes in
    let more = subst spare (sym c.self.view_is) c.requires.spare in
    omega (arith, more, few_counted c.self.inside c.args.n.0 c.self.invariant)

pub add_each-requires : goal.add_each-requires
add_each-requires c m there =
    let w = c.self.inside in
    let spare = λ (v : RoomyWork). 0 < v.spare_outcomes in
    let more = subst spare (sym c.self.view_is) c.requires.spare in
    let new : WorkOutcome = record { number = w.numbers; atom = c.args.n.0; targets = c.args.targets; node = c.args.node.0; passed = c.args.passed } in
    let few = entries_few new c.entered.result c.entered.ensures (map plain_outcome w.outcomes.items) w.entries c.self.invariant.entered m there in
    omega (arith, more, few, few_outcomes w c.self.invariant)

pub returns-clause-spare : goal.returns-clause-spare
returns-clause-spare c =
    let w = c.self.inside in
    let fewer : c.insert.new.self.room ≡ w.slots.room - 1 = c.insert.ensures.room (unused_slot (map plain_outcome w.outcomes.items) w.numbers c.self.invariant.alive.used w.slots.items c.self.invariant.sorted _ refl) in
    let fewer_members : c.insert-2.new.self.room ≡ w.members.room - 1 = c.insert-2.ensures.room
    (unused_member (map plain_outcome w.outcomes.items) w.numbers c.self.invariant.alive.used w.members.items c.self.invariant.members (plain_outcome c.without_targets.result) (ap (λ x. x.number) c.without_targets.ensures)) in
    rw (← c.self.view_is) (omega (arith, fewer, fewer_members, c.push.ensures.room))
