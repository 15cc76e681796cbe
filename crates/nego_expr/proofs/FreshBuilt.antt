-- A work that was built of the lists of a diagram is its fresh work, and may be used.
use Rattle.std.proofs.Common.{◌≡◌, ◌∙◌, ℕ, ◌+◌, ◌<◌, [], length, map, slice_get, ap, sym, refl, subst, arith, ltb-true}
use Rattle.std.specs.List.{All, range_with_len}
use Rattle.std.specs.Option.{option_map_or}
use Rattle.std.proofs.lemmas.List.FromFn.{length-map-range_with_len, get_or-map-range_with_len}
use Rattle.std.proofs.lemmas.List.Elements.{All-weaker}
use Rattle.std.proofs.lemmas.Option.{slice_get_within}
use Rattle.nego_base.specs.Members.{IsRising}
use Rattle.nego_base.proofs.Members.{All-members, is_in-range_zero}
use Rattle.nego_model.specs.Expression.{Base}
use Rattle.nego_model.specs.Diagram.{PlainDiagram, parties_of, nexts_of, outcome_name}
use Rattle.nego_model.specs.Limits.{IsWithinLimits}
use Rattle.nego_model.specs.Summary.{final_outcomes}
use Rattle.nego_expr.specs.declared.work.Work.TheInside.{Inside}
use Rattle.nego_expr.specs.Fresh.{atoms_from, fresh_work, outcomes_of}
use Rattle.nego_expr.specs.Sorted.{AreMembersOf, AreSlotsOf}
use Rattle.nego_expr.specs.WorkView.{AreAlive, IsUsable, atom_among, atom_number, plain_outcome, plain_work}
use Rattle.nego_expr.specs.Counts.{AreCountsOf, AreEntriesOf}
use Rattle.nego_expr.proofs.FreshLists.{rises-range, numbers-outcomes_of, All-outcomes_of}
use Rattle.nego_expr.proofs.FreshSteps.{atoms_among-from}

-- the fields of a fresh work
pub record IsBuilt (diagram : PlainDiagram) (w : Inside) : Type 0 where
  pub agents : w.agents ≡ length diagram.agents
  pub left : w.left ≡ range_with_len 0 (length diagram.atoms)
  pub parties : w.parties ≡ map (parties_of diagram) (range_with_len 0 (length diagram.atoms))
  pub first : w.first.0 ≡ diagram.first
  pub last : w.last.0 ≡ diagram.last
  pub nodes : w.nodes.nodes ≡ map Base (range_with_len 0 (length diagram.outcomes))
  pub room : w.nodes.room ≡ 0
  pub numbers : w.numbers ≡ length diagram.outcomes
  pub outcomes : map plain_outcome w.outcomes.items ≡ outcomes_of diagram 0 diagram.outcomes
  pub slots : AreSlotsOf (map plain_outcome w.outcomes.items) w.slots.items
  pub members : AreMembersOf (map plain_outcome w.outcomes.items) w.members.items
  pub counts : AreCountsOf (map atom_number w.outcomes.items) w.counts
  pub entries : AreEntriesOf (map plain_outcome w.outcomes.items) w.entries
  pub names : w.names ≡ map (outcome_name diagram) (final_outcomes diagram)
  pub bases : w.bases ≡ map (λ outcome. parties_of diagram outcome.atom) diagram.outcomes

-- the numbers of a range are below its end
below-range : (n : ℕ) → All (λ y. y < n) (range_with_len 0 n)
below-range n = All-members (λ y. y < n) (range_with_len 0 n) (λ y m. ltb-true y n (sym (is_in-range_zero y n) ∙ m))

-- the atoms are those of the diagram, with their parties
fresh_atoms : (diagram : PlainDiagram) → map (atom_among (map (parties_of diagram) (range_with_len 0 (length diagram.atoms)))) (range_with_len 0 (length diagram.atoms)) ≡ atoms_from 0 diagram.atoms
fresh_atoms diagram =
    let count = length diagram.atoms in
    atoms_among-from (map (parties_of diagram) (range_with_len 0 count)) 0 diagram.atoms
    (λ k x at. get_or-map-range_with_len (parties_of diagram) 0 count (0 + k) k [] (omega (arith, slice_get_within diagram.atoms k x at)) (omega arith)
    ∙ ap (λ found. option_map_or (λ atom. atom.parties) found []) at)

-- the outcomes are alive ones: their numbers rise, each has a target or none for each agent, and its node is there
fresh_alive : (diagram : PlainDiagram) → AreAlive (length diagram.agents) (length diagram.outcomes) (length diagram.outcomes) (outcomes_of diagram 0 diagram.outcomes)
fresh_alive diagram =
    let agents = length diagram.agents in
    let count = length diagram.outcomes in
    let outcomes = diagram.outcomes in
    record {
      rising = subst IsRising (sym (numbers-outcomes_of diagram 0 outcomes)) (rises-range 0 0 count (omega arith));
      used = All-outcomes_of diagram (λ x. x.number < count) 0 outcomes (λ k x at. omega (arith, slice_get_within outcomes k x at));
      fit = All-outcomes_of diagram (λ x. length x.targets ≡ agents) 0 outcomes (λ k x at. length-map-range_with_len (λ a. slice_get (nexts_of diagram (0 + k) a) 0) 0 agents);
      there = All-outcomes_of diagram (λ x. x.node < count) 0 outcomes (λ k x at. omega (arith, slice_get_within outcomes k x at));
    }

module _ (diagram : PlainDiagram) (w : Inside) (built : IsBuilt diagram w) where
  -- the fields are the fresh work
  pub built_work : plain_work w ≡ fresh_work diagram
  unfolding fresh_work
  built_work = rw (built.agents, built.left, built.parties, built.first, built.last, built.nodes, built.numbers, built.outcomes, built.names, built.bases, fresh_atoms diagram) refl

  -- and they may be used
  pub built_usable : IsWithinLimits diagram → IsUsable w
  built_usable limits =
      let count = length diagram.outcomes in
      let atoms : length w.parties ≡ length diagram.atoms = ap length built.parties ∙ length-map-range_with_len (parties_of diagram) 0 (length diagram.atoms) in
      let nodes : length w.nodes.nodes ≡ count = ap length built.nodes ∙ length-map-range_with_len Base 0 count in
      let agents_alive : AreAlive w.agents count count (map plain_outcome w.outcomes.items) =
      subst (AreAlive w.agents count count) (sym built.outcomes) (subst (λ n. AreAlive n count count (outcomes_of diagram 0 diagram.outcomes)) (sym built.agents) (fresh_alive diagram)) in
      record {
        few_agents = omega (arith, built.agents, limits.few_agents);
        few_atoms = omega (arith, atoms, limits.few_atoms);
        left_below = subst (All (λ n. n < length w.parties)) (sym built.left)
            (All-weaker (λ n. n < length diagram.atoms) (λ n. n < length w.parties) (λ n h. omega (arith, h, atoms)) (range_with_len 0 (length diagram.atoms)) (below-range (length diagram.atoms)));
        alive = subst (λ n. AreAlive w.agents w.numbers n (map plain_outcome w.outcomes.items)) (sym nodes) (subst (λ n. AreAlive w.agents n count (map plain_outcome w.outcomes.items)) (sym built.numbers) agents_alive);
        few_numbers = omega (arith, built.numbers, limits.few_outcomes);
        sorted = built.slots;
        members = built.members;
        counted = built.counts;
        entered = built.entries;
      }
