-- The works to which the order's uses lead from an acyclic diagram.
use Rattle.std.proofs.Common.{◌≡◌, ℕ, false, List, Some, IsTrue, sym, subst, ap, ◌∙◌, arith}
use Rattle.std.proofs.lemmas.Bool.{false_from_ne_true}
use Rattle.std.specs.Option.{option_map_or}
use Rattle.nego_base.specs.Members.{is_in}
use Rattle.nego_base.proofs.Members.{some_member}
use Rattle.nego_model.specs.Acyclic.{IsForwardOrder}
use Rattle.nego_model.specs.Diagram.{PlainDiagram, negotiation_of}
use Rattle.nego_model.proofs.completeness.Ranks.{order-ranks}
use Rattle.nego_expr.specs.Work.{WorkOutcome, PlainWork, IsWork, outcome_at, negotiation_of_work}
use Rattle.nego_expr.specs.Use.{PlainUse, Shortcut, enters, allows}
use Rattle.nego_expr.specs.Lead.{Allowed, Lead}
use Rattle.nego_expr.specs.StandsFor.{IsFresh}
use Rattle.nego_expr.proofs.EditCalls.{allowed_at, found_itself}
use Rattle.nego_expr.proofs.FreshWorks.{fresh_is_work, has_form}
use Rattle.nego_expr.proofs.Leading.{Lead-weaker}
use Rattle.nego_expr.proofs.WorkEdits.{All-found}
use Rattle.nego_shortcut.proofs.ShortWorks.{IsEntry, entry_from}
use Rattle.nego_reduce.specs.Order.{IsNextUse, has_passed}
use Rattle.nego_reduce.specs.Laws.{AcyclicWorksStayRanked, PassedAtomsNeverHinder}
use Rattle.nego_reduce.proofs.NextUses.{next_allowed}
use Rattle.nego_reduce.proofs.complete.GoingForward.{GoesForward, IsForward, forward-ranked, fresh_forward, ranked_iterates_none}
use Rattle.nego_reduce.proofs.complete.ForwardUses.{leading_forward}

-- an outcome that goes forward has passed no atom that it may enter, since it sends the atom's parties behind what it passed
pub not_passed : (order : List ℕ) (work : PlainWork) (o n : ℕ) → IsWork work → IsForward order work → IsTrue (allows work (Shortcut o n)) → has_passed work o n ≡ false
not_passed order work o n ok forward allowed =
    ap (λ found. option_map_or (λ z. is_in n z.passed) found false) k.1
    ∙ false_from_ne_true (is_in n k.0.passed) (λ h. let up = goes.passed n a.0 n h a.1 (entry.sends a.0 a.1) in let no_more : ⊥ = omega (arith, up) in no_more)
  where
    k : (x : WorkOutcome) × (outcome_at work o ≡ Some x) × IsTrue (enters work x n)
    k = allowed_at (λ x. enters work x n) (outcome_at work o) allowed

    entry : IsEntry work k.0 n
    entry = entry_from work k.0 n (found_itself work o k.0 k.1) k.2

    goes : GoesForward order work.atoms k.0
    goes = All-found (GoesForward order work.atoms) work.outcomes o k.0 forward.outcomes k.1

    a : (a : ℕ) × IsTrue (is_in a ((negotiation_of_work work).parties n))
    a = some_member ((negotiation_of_work work).parties n) (ok.form.some_party n entry.there)

-- each is a work, and goes forward in the diagram's order
pub acyclic_works : (diagram : PlainDiagram) (order : List ℕ) (work end : PlainWork) (uses : List PlainUse) → IsFresh work diagram → IsForwardOrder (negotiation_of diagram) order → Lead IsNextUse work uses end →
    IsWork end × IsForward order end
acyclic_works diagram order work end uses fresh goes leads =
    let form = has_form diagram fresh.diagram_read in
    leading_forward order work end uses
    (subst IsWork (sym fresh.fresh) (fresh_is_work diagram form fresh.determined))
    (subst (IsForward order) (sym fresh.fresh) (fresh_forward order diagram form fresh.determined (order-ranks (negotiation_of diagram) order form.form goes)))
    (Lead-weaker IsNextUse Allowed next_allowed work end uses leads)

-- so the order ranks it, and nothing iterates
pub acyclic_works_ranked : AcyclicWorksStayRanked
acyclic_works_ranked diagram order work end uses fresh goes leads =
    let k = acyclic_works diagram order work end uses fresh goes leads in
    let ranks = forward-ranked order end k.0 k.1 in
    (ranks, ranked_iterates_none order end k.0 ranks)

-- and no shortcut is into an atom that was passed
pub acyclic_works_enter_anew : PassedAtomsNeverHinder
acyclic_works_enter_anew diagram work end uses fresh (order, goes) leads o n allowed =
    let k = acyclic_works diagram order work end uses fresh goes leads in
    not_passed order end o n k.0 k.1 allowed
