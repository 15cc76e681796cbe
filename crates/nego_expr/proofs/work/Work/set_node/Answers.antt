use Rattle.std.proofs.Common.{◌≡◌, ◌↔◌, ◌<◌, ⊎_elim, ℕ, List, arith, refl, Option, Some, length, map, option_map, slice_get, slice_set, sym, subst, ap, IfSome, ◌∙◌}
use Rattle.std.proofs.Math.Seq.{map-set_same}
use Rattle.std.proofs.lemmas.Option.{same_Some, slice_get-map, slice_get_cases, get_or_from_slice_get}
use Rattle.std.proofs.lemmas.Simd.{map-map}
use Rattle.std.specs.List.{Contains}
use Rattle.nego_expr.specs.declared.outcome.Outcome.{Outcome}
use Rattle.nego_expr.specs.Work.{WorkOutcome, outcome_among}
use Rattle.nego_expr.specs.Edits.{with_outcome}
use Rattle.nego_expr.specs.Room.{RoomyWork}
use Rattle.nego_expr.specs.Sorted.{PlainSlot, slot_of, AreMembersOf}
use Rattle.nego_expr.specs.WorkView.{plain_outcome, plain_work, AreAlive}
use Rattle.nego_expr.specs.Counts.{AreCountsOf, AreEntriesOf}
use Rattle.nego_expr.proofs.Entries.{entries-with_node}
use Rattle.nego_expr.proofs.MembersOf.{members-set}
use Rattle.nego_expr.proofs.Places.{set-place}
use Rattle.nego_expr.proofs.UsableWorks.{alive-set}
use Rattle.nego_expr.proofs.WorkEdits.{All-found, found-number, with_node}
use Rattle.nego_expr.proofs.work.Work.set_node.Goals as goal
use Rattle.nego_expr.proofs.work.Work.set_node.Goals.{After-put_node}

module _ (c : After-put_node) where
  abbrev items : List Outcome
  items = c.self.inside.outcomes.items

  abbrev xs : List WorkOutcome
  xs = map plain_outcome items

  abbrev i : ℕ
  i = c.unwrap-i.result

  there : i < length items
  there = subst (λ (zs : List Outcome). i < length zs) c.as_slice.ensures
      (subst (λ (r : Option ℕ). IfSome r (λ k. k < length c.as_slice.result.now)) c.unwrap-i.ensures c.place_of.ensures.there)

  place : option_map plain_outcome (slice_get items i) ≡ outcome_among xs c.args.o.0
  place = subst (λ (zs : List Outcome). option_map plain_outcome (slice_get zs i) ≡ outcome_among (map plain_outcome zs) c.args.o.0) c.as_slice.ensures
      (subst (λ (r : Option ℕ). IfSome r (λ k. option_map plain_outcome (slice_get c.as_slice.result.now k) ≡ outcome_among (map plain_outcome c.as_slice.result.now) c.args.o.0)) c.unwrap-i.ensures c.place_of.ensures.found)

  -- the outcome at the place
  item : (x : Outcome) × (slice_get items i ≡ Some x)
  item = ⊎_elim (λ q. (q.0, q.2)) (λ past. absurd (let l = there in omega (arith, past.0, l))) (slice_get_cases items i).1

  abbrev old : WorkOutcome
  old = plain_outcome item.0

  abbrev new : WorkOutcome
  new = with_node c.args.node.0 old

  -- it is the one of the number
  found : outcome_among xs c.args.o.0 ≡ Some old
  found = sym place ∙ ap (option_map plain_outcome) item.1

  at : slice_get xs i ≡ Some old
  at = slice_get-map plain_outcome items i ∙ ap (option_map plain_outcome) item.1

  -- the outcomes after the edit
  put : map plain_outcome c.put_node.new.outcomes.items ≡ slice_set xs i new
  put = sym (same_Some (slice_set xs i new) (map plain_outcome c.put_node.new.outcomes.items)
      (ap (option_map (λ y. slice_set xs i (with_node c.args.node.0 y))) (sym at) ∙ c.put_node.ensures.outcomes))

  after : map plain_outcome c.put_node.new.outcomes.items ≡ with_outcome new xs
  after = put ∙ set-place (λ z. new) 0 xs i old c.self.invariant.alive.rising at

  -- what reads no node stays
  stays : {A : Type 0} (f : WorkOutcome → A) → f new ≡ f old → map f (map plain_outcome c.put_node.new.outcomes.items) ≡ map f xs
  stays f e = ap (map f) put ∙ map-set_same f xs i new old (e ∙ ap f (sym (get_or_from_slice_get xs i old old at)))

pub invariant_of-self : goal.invariant_of-self
invariant_of-self c =
    let b = (goal.at.invariant_of-self c).After-put_node in
    let w = c.self.inside in
    let node = λ (v : RoomyWork). c.args.node.0 < length v.plain.nodes in
    record {
      few_agents = c.self.invariant.few_agents;
      few_atoms = c.self.invariant.few_atoms;
      left_below = c.self.invariant.left_below;
      alive = subst (AreAlive w.agents w.numbers (length w.nodes.nodes)) (sym (after b))
          (alive-set w.agents w.numbers (length w.nodes.nodes) (xs b) c.self.invariant.alive (new b) (All-found (λ x. x.number < w.numbers) (xs b) c.args.o.0 (old b) c.self.invariant.alive.used (found b))
          (All-found (λ x. length x.targets ≡ w.agents) (xs b) c.args.o.0 (old b) c.self.invariant.alive.fit (found b)) (subst node (sym c.self.view_is) c.requires.there));
      few_numbers = c.self.invariant.few_numbers;
      sorted = subst (λ l. (slot : PlainSlot) → Contains w.slots.items slot ↔ Contains l slot) (sym (stays b slot_of refl)) c.self.invariant.sorted;
      members = subst (λ os. AreMembersOf os w.members.items) (sym (after b))
          (members-set (xs b) c.self.invariant.alive.rising c.args.o.0 (old b) (found b) (new b) (found-number (xs b) c.args.o.0 (old b) (found b)) refl w.members.items c.self.invariant.members);
      counted = subst (λ ns. AreCountsOf ns w.counts)
          (sym (sym (map-map (λ x. x.atom) plain_outcome c.put_node.new.outcomes.items) ∙ (stays b (λ x. x.atom) refl ∙ map-map (λ x. x.atom) plain_outcome w.outcomes.items))) c.self.invariant.counted;
      entered = subst (λ os. AreEntriesOf os w.entries) (sym (put b)) (entries-with_node (xs b) w.entries c.self.invariant.entered (i b) (old b) (at b) c.args.node.0);
    }

pub returns-clause-plain : goal.returns-clause-plain
returns-clause-plain c =
    let b = (goal.at.returns-clause-plain c).After-put_node in
    let w = plain_work c.self.inside in
    rw (← c.self.view_is) (ap (λ outcomes. Some (record w { outcomes = outcomes })) (after b)
    ∙ sym (ap (option_map (λ x. record w { outcomes = with_outcome (with_node c.args.node.0 x) w.outcomes })) (found b)))
