-- The nodes of an acyclic diagram's works are as many as its outcomes and what its uses make.
use Rattle.std.proofs.Common.{◌≡◌, ℕ, ◌+◌, List, [], ◌∷◌, length, sym, ap, ◌∙◌, arith}
use Rattle.std.specs.List.{sum_by}
use Rattle.std.proofs.lemmas.List.{length-map}
use Rattle.std.proofs.lemmas.List.Sums.{sum_by-cons}
use Rattle.nego_model.specs.Summary.{final_outcomes}
use Rattle.nego_expr.specs.Work.{PlainWork, outcomes_at, work_outcomes}
use Rattle.nego_expr.specs.Use.{PlainUse, Merge, Iterate, Shortcut, Close, after_use}
use Rattle.nego_expr.specs.Lead.{Lead}
use Rattle.nego_expr.proofs.FreshWorks.{fresh_stands, has_form}
use Rattle.nego_reduce.specs.Order.{IsNextUse}
use Rattle.nego_reduce.specs.Bound.{nodes_made_by}
use Rattle.nego_reduce.specs.Laws.{AcyclicNodesAreCounted}
use Rattle.nego_reduce.proofs.NextUses.{next_allowed}
use Rattle.nego_reduce.proofs.UsesLead.{uses_keep}
use Rattle.nego_reduce.proofs.bound.NodesMade.{nodes-after}
use Rattle.nego_reduce.proofs.bound.FewNodes.{IsAcyclicWork, next_acyclic, no_iteration, fresh_acyclic, fresh_nodes}

module _ (order : List ℕ) (count outcomes finals : ℕ) where
  -- each next use makes its nodes
  nodes-next : (work : PlainWork) (next : PlainUse) → IsAcyclicWork order count outcomes work → length (work_outcomes work work.last) ≡ finals → IsNextUse work next →
      length (after_use work next).nodes ≡ length work.nodes + nodes_made_by finals next
  nodes-next work (Merge o1 o2) h last k = nodes-after work (Merge o1 o2) h.roomy.0 k
  nodes-next work (Iterate o) h last k = absurd (no_iteration order count outcomes work o h k)
  nodes-next work (Shortcut o n) h last k = nodes-after work (Shortcut o n) h.roomy.0 k
  nodes-next work Close h last k = nodes-after work Close h.roomy.0 k ∙ ap (λ n. length work.nodes + n) (sym (length-map (outcomes_at work work.last) (λ x. x.number)) ∙ last)

  -- so all uses together make theirs
  nodes-led : (work end : PlainWork) (uses : List PlainUse) → IsAcyclicWork order count outcomes work → length (work_outcomes work work.last) ≡ finals → Lead IsNextUse work uses end →
      length end.nodes ≡ length work.nodes + sum_by (nodes_made_by finals) uses
  nodes-led work end [] h last leads = let e = ap (λ w. length w.nodes) leads in omega (arith, e)
  nodes-led work end (next ∷ uses) h last leads =
      let new = after_use work next in
      let keeps = (uses_keep next work h.roomy.0 (next_allowed work next leads.0)).1 in
      let made = nodes-next work next h last leads.0 in
      let rest = nodes-led new end uses (next_acyclic order count outcomes work next h leads.0) (ap length (sym keeps.finals) ∙ last) leads.2 in
      let sum = sum_by-cons (nodes_made_by finals) next uses in
      omega (arith, made, rest, sum)

-- the nodes of an acyclic diagram's works are counted
pub acyclic_nodes_are_counted : AcyclicNodesAreCounted
acyclic_nodes_are_counted diagram work end uses fresh (order, goes) leads =
    let stands = fresh_stands diagram (has_form diagram fresh.diagram_read) fresh.determined in
    let last = ap (λ w. length (work_outcomes w w.last)) fresh.fresh ∙ ap length (sym stands.finals) in
    let nodes = ap (λ w. length w.nodes) fresh.fresh ∙ fresh_nodes diagram in
    let led = nodes-led order (length diagram.atoms) (length diagram.outcomes) (length (final_outcomes diagram)) work end uses (fresh_acyclic order diagram work fresh goes) last leads in
    omega (arith, nodes, led)
