use Rattle.std.proofs.Common.{◌≡◌, ℕ, ◌==◌, not, List, Option, Some, length, map, option_map, slice_get, sym, subst, ap, IfSome, ◌∙◌}
use Rattle.nego_expr.specs.declared.outcome.Outcome.{Outcome}
use Rattle.std.specs.List.{filter}
use Rattle.nego_expr.specs.Work.{outcome_among}
use Rattle.nego_expr.specs.Sorted.{AreMembersOf, AreSlotsOf}
use Rattle.std.proofs.lemmas.Option.{slice_get-map}
use Rattle.nego_expr.specs.WorkView.{atom_number, plain_outcome, plain_work, AreAlive}
use Rattle.nego_expr.specs.Counts.{AreCountsOf, AreEntriesOf}
use Rattle.nego_expr.proofs.Counting.{counted-there, counts-remove}
use Rattle.nego_expr.proofs.Entries.{entries-remove, entries_some}
use Rattle.nego_expr.proofs.MembersOf.{member-found, members-without}
use Rattle.nego_expr.proofs.Places.{remove-found, remove-seen}
use Rattle.nego_expr.proofs.SlotsOf.{slot-found, slots-without}
use Rattle.nego_expr.proofs.UsableWorks.{alive-filter}
use Rattle.nego_expr.proofs.work.Work.drop_outcome.Goals as goal
use Rattle.nego_expr.proofs.work.Work.drop_outcome.Goals.{After-remove-outcome}

-- the place of the outcome that is taken
place : (c : After-remove-outcome) → option_map plain_outcome (slice_get c.self.inside.outcomes.items c.unwrap-i.result) ≡ outcome_among (map plain_outcome c.self.inside.outcomes.items) c.args.o.0
place c =
    let i = c.unwrap-i.result in
    subst (λ (xs : List Outcome). option_map plain_outcome (slice_get xs i) ≡ outcome_among (map plain_outcome xs) c.args.o.0) c.as_slice.ensures
    (subst (λ (r : Option ℕ). IfSome r (λ k. option_map plain_outcome (slice_get c.as_slice.result.now k) ≡ outcome_among (map plain_outcome c.as_slice.result.now) c.args.o.0)) c.unwrap-i.ensures c.place_of.ensures.found)

-- it is the one of the number
found : (c : After-remove-outcome) → outcome_among (map plain_outcome c.self.inside.outcomes.items) c.args.o.0 ≡ Some (plain_outcome c.remove-outcome.result)
found c = sym (place c) ∙ ap (option_map plain_outcome) c.remove-outcome.ensures.value

-- the outcomes after the edit
after : (c : After-remove-outcome) → map plain_outcome c.remove-outcome.new.self.items ≡ filter (λ x. not (x.number == c.args.o.0)) (map plain_outcome c.self.inside.outcomes.items)
after c =
    ap (map plain_outcome) c.remove-outcome.ensures.items
    ∙ remove-found plain_outcome c.self.inside.outcomes.items c.args.o.0 c.unwrap-i.result c.remove-outcome.result c.self.invariant.alive.rising c.remove-outcome.ensures.value (place c)

pub remove-requires : goal.remove-requires
remove-requires c =
    let w = c.self.inside in
    let b = (goal.at.remove-requires c).After-remove-outcome in
    slot-found (map plain_outcome w.outcomes.items) c.self.invariant.alive.rising c.args.o.0 (plain_outcome b.remove-outcome.result) (found b) w.slots.items c.self.invariant.sorted

-- the atom at its place
atom_there : (c : After-remove-outcome) → slice_get (map atom_number c.self.inside.outcomes.items) c.unwrap-i.result ≡ Some (atom_number c.remove-outcome.result)
atom_there c = slice_get-map atom_number c.self.inside.outcomes.items c.unwrap-i.result ∙ ap (option_map atom_number) c.remove-outcome.ensures.value

pub remove-requires-2 : goal.remove-requires-2
remove-requires-2 c =
    let w = c.self.inside in
    let b = (goal.at.remove-requires-2 c).After-remove-outcome in
    counted-there (map atom_number w.outcomes.items) w.counts (atom_number b.remove-outcome.result) b.unwrap-i.result c.self.invariant.counted (atom_there b)

-- and the outcome
outcome_there : (c : After-remove-outcome) → slice_get (map plain_outcome c.self.inside.outcomes.items) c.unwrap-i.result ≡ Some (plain_outcome c.remove-outcome.result)
outcome_there c = slice_get-map plain_outcome c.self.inside.outcomes.items c.unwrap-i.result ∙ ap (option_map plain_outcome) c.remove-outcome.ensures.value

pub remove_each-requires : goal.remove_each-requires
remove_each-requires c m there =
    let w = c.self.inside in
    let b = (goal.at.remove_each-requires c).After-remove-outcome in
    entries_some (plain_outcome b.remove-outcome.result) c.entered.result c.entered.ensures (map plain_outcome w.outcomes.items) w.entries c.self.invariant.entered b.unwrap-i.result (outcome_there b) m there

pub remove-requires-3 : goal.remove-requires-3
remove-requires-3 c =
    let w = c.self.inside in
    let b = (goal.at.remove-requires-3 c).After-remove-outcome in
    member-found (map plain_outcome w.outcomes.items) c.self.invariant.alive.rising c.args.o.0 (plain_outcome b.remove-outcome.result) (found b) (plain_outcome c.without_targets.result) c.without_targets.ensures
    w.members.items c.self.invariant.members

pub invariant_of-self : goal.invariant_of-self
invariant_of-self c =
    let w = c.self.inside in
    let b = (goal.at.invariant_of-self c).After-remove-outcome in
    record {
      few_agents = c.self.invariant.few_agents;
      few_atoms = c.self.invariant.few_atoms;
      left_below = c.self.invariant.left_below;
      alive = subst (AreAlive w.agents w.numbers (length w.nodes.nodes)) (sym (after b))
          (alive-filter w.agents w.numbers (length w.nodes.nodes) (map plain_outcome w.outcomes.items) c.self.invariant.alive (λ x. not (x.number == c.args.o.0)));
      few_numbers = c.self.invariant.few_numbers;
      sorted = subst (λ os. AreSlotsOf os c.remove.new.self.items) (sym (after b))
          (slots-without (map plain_outcome w.outcomes.items) c.self.invariant.alive.rising c.args.o.0 (plain_outcome b.remove-outcome.result) (found b) w.slots.items c.self.invariant.sorted c.remove.new.self.items c.remove.ensures.items);
      members = subst (λ os. AreMembersOf os c.remove-3.new.self.items) (sym (after b))
          (members-without (map plain_outcome w.outcomes.items) c.self.invariant.alive.rising c.args.o.0 (plain_outcome b.remove-outcome.result) (found b) (plain_outcome c.without_targets.result) c.without_targets.ensures
          w.members.items c.remove-3.new.self.items c.self.invariant.members c.remove-3.ensures.items);
      counted = subst (λ ns. AreCountsOf ns c.remove-2.new.self) (sym (ap (map atom_number) b.remove-outcome.ensures.items ∙ remove-seen atom_number w.outcomes.items b.unwrap-i.result))
          (counts-remove (map atom_number w.outcomes.items) w.counts c.remove-2.new.self (atom_number b.remove-outcome.result) c.self.invariant.counted b.unwrap-i.result (atom_there b) c.remove-2.ensures);
      entered = subst (λ os. AreEntriesOf os c.remove_each.new.self) (sym (ap (map plain_outcome) b.remove-outcome.ensures.items ∙ remove-seen plain_outcome w.outcomes.items b.unwrap-i.result))
          (entries-remove (plain_outcome b.remove-outcome.result) c.entered.result c.entered.ensures (map plain_outcome w.outcomes.items) w.entries c.self.invariant.entered b.unwrap-i.result (outcome_there b) c.remove_each.new.self c.remove_each.ensures);
    }

pub returns-clause-plain : goal.returns-clause-plain
returns-clause-plain c = rw (← c.self.view_is) (ap (λ outcomes. record (plain_work c.self.inside) { outcomes = outcomes }) (after (goal.at.returns-clause-plain c).After-remove-outcome))
