-- The nodes of an acyclic diagram's works are few.
use Rattle.std.proofs.Common.{◌≡◌, ℕ, ◌+◌, ◌-◌, ◌*◌, ◌≤◌, ◌==◌, false, List, length, sym, subst, ap, ◌∙◌, arith}
use Rattle.std.proofs.lemmas.Bool.{true≢false}
use Rattle.nego_base.proofs.BoolLaws.{length-filter_le}
use Rattle.nego_model.specs.Acyclic.{IsForwardOrder}
use Rattle.nego_model.specs.Diagram.{PlainDiagram, negotiation_of}
use Rattle.nego_model.proofs.completeness.Ranks.{order-ranks}
use Rattle.nego_expr.specs.Work.{PlainWork}
use Rattle.nego_expr.specs.Use.{PlainUse, Merge, Iterate, Shortcut, Close, after_use}
use Rattle.nego_expr.specs.Fresh.{fresh_work}
use Rattle.nego_expr.specs.Lead.{Lead}
use Rattle.nego_expr.specs.StandsFor.{IsFresh}
use Rattle.nego_expr.proofs.BaseNodes.{length-base_nodes}
use Rattle.nego_expr.proofs.FreshWorks.{has_form}
use Rattle.nego_reduce.specs.Order.{IsNextUse}
use Rattle.nego_reduce.specs.Laws.{AcyclicIsNeverFull, AcyclicNodesAreFew}
use Rattle.nego_reduce.proofs.NextUses.{next_allowed}
use Rattle.nego_reduce.proofs.complete.GoingForward.{IsForward, forward-ranked, fresh_forward, ranked_iterates_none}
use Rattle.nego_reduce.proofs.complete.ForwardUses.{use_forward}
use Rattle.nego_reduce.proofs.bound.CountedUses.{Lead-keeps, uses-counted}
use Rattle.nego_reduce.proofs.bound.Measures.{room, while_open}
use Rattle.nego_reduce.proofs.bound.NextUsesLower.{IsRoomy, next_lowers, next_roomy, fresh_alive, room_most}
use Rattle.nego_reduce.proofs.bound.FewUses.{fresh_roomy, while_open_most}
use Rattle.nego_reduce.proofs.bound.NodesMade.{nodes-after}

-- A work of an acyclic diagram: it goes forward in the diagram's order, and has no more outcomes than the diagram.
pub record IsAcyclicWork (order : List ℕ) (count outcomes : ℕ) (work : PlainWork) : Type 0 where
  pub roomy : IsRoomy count work
  pub forward : IsForward order work
  pub alive : length work.outcomes ≤ outcomes

-- each next use leaves one
pub next_acyclic : (order : List ℕ) (count outcomes : ℕ) (work : PlainWork) (next : PlainUse) → IsAcyclicWork order count outcomes work → IsNextUse work next → IsAcyclicWork order count outcomes (after_use work next)
next_acyclic order count outcomes work next h k = record {
  roomy = next_roomy count work next h.roomy k;
  forward = use_forward order work next h.roomy.0 (next_allowed work next k) h.forward;
  alive = let less = (next_lowers count work next h.roomy.0 h.roomy.1 k).alive in let few = h.alive in omega (arith, less, few);
}

-- no next use of one is an iteration
pub no_iteration : (order : List ℕ) (count outcomes : ℕ) (work : PlainWork) (o : ℕ) → IsAcyclicWork order count outcomes work → IsNextUse work (Iterate o) → ⊥
no_iteration order count outcomes work o h k =
    true≢false (sym k.1.allowed ∙ ranked_iterates_none order work h.roomy.0 (forward-ranked order work h.roomy.0 h.forward) o)

-- the fresh work is one
pub fresh_acyclic : (order : List ℕ) (diagram : PlainDiagram) (work : PlainWork) → IsFresh work diagram → IsForwardOrder (negotiation_of diagram) order → IsAcyclicWork order (length diagram.atoms) (length diagram.outcomes) work
fresh_acyclic order diagram work fresh goes =
    let form = has_form diagram fresh.diagram_read in
    record {
      roomy = fresh_roomy diagram work fresh;
      forward = subst (IsForward order) (sym fresh.fresh) (fresh_forward order diagram form fresh.determined (order-ranks (negotiation_of diagram) order form.form goes));
      alive = let e = ap (λ w. length w.outcomes) fresh.fresh ∙ fresh_alive diagram in omega (arith, e);
    }

-- the fresh work has a node for each outcome
pub fresh_nodes : (diagram : PlainDiagram) → length (fresh_work diagram).nodes ≡ length diagram.outcomes
unfolding fresh_work
fresh_nodes diagram = length-base_nodes (length diagram.outcomes)

-- The nodes that there are and those that further uses can make: one for each atom that an outcome may pass, one for each
-- outcome that may be taken away, and by a closing one for each outcome of the last atom.
abbrev pub nodes_in_all : ℕ → ℕ → PlainWork → ℕ
nodes_in_all count outcomes work = length work.nodes + room count work + length work.outcomes + while_open outcomes work

-- no next use makes them more
next_in_all : (order : List ℕ) (count outcomes : ℕ) (work : PlainWork) (next : PlainUse) → IsAcyclicWork order count outcomes work → IsNextUse work next →
    nodes_in_all count outcomes (after_use work next) ≤ nodes_in_all count outcomes work
next_in_all order count outcomes work (Merge o1 o2) h k =
    let low = next_lowers count work (Merge o1 o2) h.roomy.0 h.roomy.1 k in
    let made = nodes-after work (Merge o1 o2) h.roomy.0 k in
    let passing = low.passing in let alive = low.alive in let closing = low.closing outcomes in
    omega (arith, made, passing, alive, closing)
next_in_all order count outcomes work (Iterate o) h k = absurd (no_iteration order count outcomes work o h k)
next_in_all order count outcomes work (Shortcut o n) h k =
    let low = next_lowers count work (Shortcut o n) h.roomy.0 h.roomy.1 k in
    let made = nodes-after work (Shortcut o n) h.roomy.0 k in
    let passing = low.passing in let alive = low.alive in let closing = low.closing outcomes in
    omega (arith, made, passing, alive, closing)
next_in_all order count outcomes work Close h k =
    let low = next_lowers count work Close h.roomy.0 h.roomy.1 k in
    let made = nodes-after work Close h.roomy.0 k in
    let finals = length-filter_le (λ x. x.atom == work.last) work.outcomes in
    let few = h.alive in
    let passing = low.passing in let alive = low.alive in let closing = low.closing outcomes in
    omega (arith, made, finals, few, passing, alive, closing)

module _ (diagram : PlainDiagram) (order : List ℕ) (work end : PlainWork) (uses : List PlainUse) (fresh : IsFresh work diagram) (goes : IsForwardOrder (negotiation_of diagram) order) (leads : Lead IsNextUse work uses end) where
  abbrev count : ℕ
  count = length diagram.atoms

  abbrev outcomes : ℕ
  outcomes = length diagram.outcomes

  begins : IsAcyclicWork order count outcomes work
  begins = fresh_acyclic order diagram work fresh goes

  pub end_acyclic : IsAcyclicWork order count outcomes end
  end_acyclic = Lead-keeps IsNextUse (IsAcyclicWork order count outcomes) (next_acyclic order count outcomes) work end uses begins leads

  in_all : (w : PlainWork) (next : PlainUse) → IsAcyclicWork order count outcomes w → IsNextUse w next → nodes_in_all count outcomes (after_use w next) + 0 ≤ nodes_in_all count outcomes w
  in_all w next h k = let less = next_in_all order count outcomes w next h k in omega (arith, less)

  -- what further uses can make becomes no more
  falls : nodes_in_all count outcomes end ≤ nodes_in_all count outcomes work
  falls =
      let counted = uses-counted IsNextUse (IsAcyclicWork order count outcomes) (next_acyclic order count outcomes) (λ next. false) (nodes_in_all count outcomes) in_all work end uses begins leads in
      omega (arith, counted)

  -- the nodes that there are in the end and those that further uses can make, where each outcome may pass so many atoms
  pub most_in_all : (most : ℕ) → count - 2 ≤ most → nodes_in_all count outcomes end ≤ outcomes * most + 3 * outcomes
  most_in_all most within =
      let less = falls in
      let alive : length work.outcomes ≡ outcomes = ap (λ w. length w.outcomes) fresh.fresh ∙ fresh_alive diagram in
      let nodes : length work.nodes ≡ outcomes = ap (λ w. length w.nodes) fresh.fresh ∙ fresh_nodes diagram in
      let passing : room count work ≤ outcomes * most = subst (λ l. room count work ≤ l * most) alive (room_most count most work within) in
      let closing = while_open_most outcomes work in
      omega (arith, less, alive, nodes, passing, closing)

-- the nodes of an acyclic diagram's works are few
pub acyclic_nodes_are_few : AcyclicNodesAreFew
acyclic_nodes_are_few diagram work end uses fresh (order, goes) leads =
    let most = most_in_all diagram order work end uses fresh goes leads (length diagram.atoms - 2) (omega arith) in
    omega (arith, most)

-- so they are never too many
pub acyclic_is_never_full : AcyclicIsNeverFull
acyclic_is_never_full diagram work end uses fresh (order, goes) leads full =
    let count = length diagram.atoms in
    let outcomes = length diagram.outcomes in
    let atoms = fresh.limits.few_atoms in
    let few = fresh.limits.few_outcomes in
    let most = most_in_all diagram order work end uses fresh goes leads 62 (omega (arith, atoms)) in
    let less = next_in_all order count outcomes end full.next (end_acyclic diagram order work end uses fresh goes leads) full.is_next in
    let many = full.too_many in
    omega (arith, few, most, less, many)
