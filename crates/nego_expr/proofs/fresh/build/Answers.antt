use Rattle.std.proofs.Common.{◌≡◌, ◌∙◌, List, length, map, sym, subst, ap, arith}
use Rattle.std.proofs.lemmas.List.{length-map}
use Rattle.std.proofs.lemmas.List.FromFn.{length-range_with_len}
use Rattle.std.proofs.lemmas.Simd.{map-map}
use Rattle.nego_expr.specs.declared.outcome.Outcome.{Outcome}
use Rattle.nego_expr.specs.declared.work.Work.TheInside.{Inside}
use Rattle.nego_expr.specs.Fresh.{fresh_work, outcomes_of}
use Rattle.nego_expr.specs.Sorted.{AreMembersOf, AreSlotsOf}
use Rattle.nego_expr.specs.WorkView.{plain_outcome, plain_work}
use Rattle.nego_expr.specs.Counts.{AreCountsOf, AreEntriesOf}
use Rattle.nego_expr.proofs.FreshBuilt.{IsBuilt, built_work, built_usable}
use Rattle.nego_expr.proofs.FreshLists.{numbers-outcomes_of}
use Rattle.nego_expr.proofs.fresh.build.Goals as goal
use Rattle.nego_expr.proofs.fresh.build.Goals.{In_ok-parties_of_outcomes}

-- the fields
fields : In_ok-parties_of_outcomes → Inside
fields c = record {
  agents = c.agents-agents.result;
  left = c.below.result;
  parties = c.in_ok-parties_of_atoms.field-0;
  first = c.first.result;
  last = c.last.result;
  nodes = c.in_ok-base_nodes.field-0;
  numbers = c.outcomes-2.result;
  outcomes = c.in_ok-alive.alive;
  slots = c.in_ok-slots_of.field-0;
  members = c.in_ok-members_of.field-0;
  counts = c.counts_of.result;
  entries = c.entries_of.result;
  names = c.in_ok-final_names.field-0;
  bases = c.in_ok-parties_of_outcomes.field-0;
}

-- are those of the fresh work
built : (c : In_ok-parties_of_outcomes) → IsBuilt c.args.d.now (fields c)
unfolding fields
built c = record {
  agents = c.agents-agents.ensures.value;
  left = rw (sym c.atoms.ensures.value) c.below.ensures.value;
  parties = c.in_ok-parties_of_atoms.ensures;
  first = c.first.ensures.value;
  last = c.last.ensures.value;
  nodes = rw (sym c.outcomes.ensures.value) c.in_ok-base_nodes.ensures.nodes;
  room = c.in_ok-base_nodes.ensures.room;
  numbers = c.outcomes-2.ensures.value;
  outcomes = c.in_ok-alive.ensures;
  slots = subst (λ (xs : List Outcome). AreSlotsOf (map plain_outcome xs) c.in_ok-slots_of.field-0.items) c.as_slice.ensures c.in_ok-slots_of.ensures;
  members = subst (λ (xs : List Outcome). AreMembersOf (map plain_outcome xs) c.in_ok-members_of.field-0.items) c.as_slice-3.ensures c.in_ok-members_of.ensures;
  counts = subst (λ ns. AreCountsOf ns c.counts_of.result) (ap (map (λ x. x.atom)) (sym c.in_ok-alive.ensures) ∙ map-map (λ x. x.atom) plain_outcome c.in_ok-alive.alive.items) c.counts_of.ensures;
  entries = subst (λ (xs : List Outcome). AreEntriesOf (map plain_outcome xs) c.entries_of.result) c.as_slice-2.ensures c.entries_of.ensures;
  names = c.in_ok-final_names.ensures;
  bases = c.in_ok-parties_of_outcomes.ensures;
}

pub entries_of-requires : goal.entries_of-requires
entries_of-requires c =
    let d = c.args.d.now in
    let items = c.as_slice-2.result.now in
    let seen = length-map items plain_outcome in
    let same : map plain_outcome items ≡ outcomes_of d 0 d.outcomes = ap (map plain_outcome) c.as_slice-2.ensures ∙ c.in_ok-alive.ensures in
    let numbers = length-map (map plain_outcome items) (λ x. x.number) in
    let all : length (map (λ x. x.number) (map plain_outcome items)) ≡ length d.outcomes = ap (λ xs. length (map (λ x. x.number) xs)) same ∙ (ap length (numbers-outcomes_of d 0 d.outcomes) ∙ length-range_with_len 0 (length d.outcomes)) in
    omega (arith, seen, numbers, all, c.agents-agents.ensures.limits.few_outcomes)

pub invariant_of-result : goal.invariant_of-result
invariant_of-result c = c.alive.invariant

pub invariant_of-result-2 : goal.invariant_of-result-2
unfolding fields
invariant_of-result-2 c = rw c.alive.view_is (built_usable c.args.d.now (fields c) (built c) c.agents-agents.ensures.limits)

pub returns-clause-fresh : goal.returns-clause-fresh
unfolding fields
returns-clause-fresh c =
    subst (λ outcomes. plain_work (record (fields c) { outcomes = outcomes }) ≡ fresh_work c.args.d.now) (sym c.alive.view_is) (built_work c.args.d.now (fields c) (built c))
