-- Works whose alive outcomes go forward in an order of the atoms.
use Rattle.std.proofs.Common.{◌≡◌, ℕ, ◌<◌, ◌==◌, Bool, not, ◌&&◌, List, [], length, map, nat_lt, slice_index_or, Some, IsTrue, refl, sym, subst, ap, ◌∙◌, arith}
use Rattle.std.proofs.lemmas.Bool.{and_parts, false_from_ne_true}
use Rattle.std.specs.List.{All}
use Rattle.std.specs.Option.{option_to_list}
use Rattle.nego_base.specs.Members.{is_in}
use Rattle.nego_base.proofs.Members.{all_at, is_in-head, is_in_none, some_member}
use Rattle.nego_model.specs.Negotiation.{IsDeterministic}
use Rattle.nego_model.specs.Acyclic.{IsEdge, rank_in, IsRankedBy}
use Rattle.nego_model.specs.Diagram.{PlainDiagram, negotiation_of}
use Rattle.nego_expr.specs.Work.{WorkAtom, WorkOutcome, PlainWork, IsWork, parties_among, outcome_at, outcomes_at, work_parties, sent_to, negotiation_of_work}
use Rattle.nego_expr.specs.Fresh.{fresh_work}
use Rattle.nego_expr.specs.StandsFor.{HasForm}
use Rattle.nego_expr.specs.Use.{Iterate, same_target, sends_all, iterates, allows}
use Rattle.nego_expr.proofs.Alive.{each_found}
use Rattle.nego_expr.proofs.EditCalls.{allowed_at, found_itself}
use Rattle.nego_expr.proofs.FreshLists.{All-outcomes_of}
use Rattle.nego_expr.proofs.FreshWorks.{fresh_negotiation, fresh_is_work}
use Rattle.nego_expr.proofs.Searching.{target_is}
use Rattle.nego_expr.proofs.WorkEdits.{All-found}
use Rattle.nego_expr.proofs.WorkForm.{OutcomeFits, is_in-target, outcome_found, found_outcome, next-found, fits_from_work}
use Rattle.nego_reduce.specs.Order.{HasNoIteration}

-- An alive outcome goes forward in an order: it sends agents behind its atom, and the parties of each atom that it passed,
-- where this atom is one of these, behind that atom.
pub record GoesForward (order : List ℕ) (atoms : List WorkAtom) (x : WorkOutcome) : Type 0 where
  pub own : (a m : ℕ) → sent_to x a ≡ Some m → rank_in order x.atom < rank_in order m
  pub passed : (p a m : ℕ) → IsTrue (is_in p x.passed) → IsTrue (is_in a (parties_among atoms p)) → sent_to x a ≡ Some m → rank_in order p < rank_in order m

-- The atoms of a work stand in an order, and its alive outcomes go forward in it.
pub record IsForward (order : List ℕ) (work : PlainWork) : Type 0 where
  pub atoms : (n : ℕ) → IsTrue (is_in n (map (λ atom. atom.number) work.atoms)) → IsTrue (is_in n order)
  pub outcomes : All (GoesForward order work.atoms) work.outcomes

-- the order ranks such a work
pub forward-ranked : (order : List ℕ) (work : PlainWork) → IsWork work → IsForward order work → IsRankedBy (negotiation_of_work work) order
forward-ranked order work ok forward = record {
  atoms = forward.atoms;
  forward = λ m n edge.
      let x = outcome_found work ok.numbers_rise (GoesForward order work.atoms) m edge.outcome forward.outcomes edge.own.1 in
      subst (λ p. rank_in order p < rank_in order n) x.2
      (x.3.own edge.agent n (is_in-target (sent_to x.0 edge.agent) n (subst (λ xs. IsTrue (is_in n xs)) (next-found work edge.outcome edge.agent x.0 x.1) edge.leads)));
}

-- an edge for who is sent somewhere
pub sent-edge : (work : PlainWork) (x : WorkOutcome) (a m : ℕ) → IsWork work → outcome_at work x.number ≡ Some x → sent_to x a ≡ Some m → IsEdge (negotiation_of_work work) x.atom m
sent-edge work x a m ok alive sends = record {
  outcome = x.number;
  agent = a;
  own = (
    (All-found (OutcomeFits work) work.outcomes x.number x (fits_from_work work ok) alive).there,
    found_outcome work ok.numbers_rise x.atom x.number x alive refl,
  );
  leads = subst (λ xs. IsTrue (is_in m xs)) (sym (next-found work x.number a x alive ∙ ap option_to_list sends)) (is_in-head m []);
}

-- where nothing was passed, outcomes go forward in an order that ranks the work
pub ranked_forward : (order : List ℕ) (work : PlainWork) → IsWork work → IsRankedBy (negotiation_of_work work) order → All (λ x. x.passed ≡ []) work.outcomes → IsForward order work
ranked_forward order work ok ranks nothing = record {
  atoms = ranks.atoms;
  outcomes = λ k d l.
      let x = slice_index_or work.outcomes k d in
      record {
        own = λ a m sends. ranks.forward x.atom m (sent-edge work x a m ok (each_found work.outcomes ok.numbers_rise k d l) sends);
        passed = λ p a m h party sends. absurd (is_in_none p x.passed (nothing k d l) h);
      };
}

-- the fresh work of a diagram that an order ranks goes forward in it
pub fresh_forward : (order : List ℕ) (diagram : PlainDiagram) → HasForm diagram → IsDeterministic (negotiation_of diagram) → IsRankedBy (negotiation_of diagram) order → IsForward order (fresh_work diagram)
unfolding fresh_work
fresh_forward order diagram ok one ranks =
    ranked_forward order (fresh_work diagram) (fresh_is_work diagram ok one) (subst (λ nego. IsRankedBy nego order) (fresh_negotiation diagram ok one) ranks)
    (All-outcomes_of diagram (λ x. x.passed ≡ []) 0 diagram.outcomes (λ k x h. refl))

-- no outcome of a ranked work iterates, since an iteration leads back to its atom
pub ranked_iterates_none : (order : List ℕ) (work : PlainWork) → IsWork work → IsRankedBy (negotiation_of_work work) order → HasNoIteration work
ranked_iterates_none order work ok ranks o = false_from_ne_true (allows work (Iterate o)) (λ allowed.
    let found = allowed_at (iterates work) (outcome_at work o) allowed in
    let x = found.0 in
    let alive = found_itself work o x found.1 in
    let back : Bool = sends_all (work_parties work x.atom) x.atom x in
    let more : Bool = nat_lt 1 (length (outcomes_at work x.atom)) in
    let sends : IsTrue back = (and_parts back more (and_parts (not (x.atom == work.last)) (back && more) found.2).1).0 in
    let there = (All-found (OutcomeFits work) work.outcomes x.number x (fits_from_work work ok) alive).there in
    let a = some_member (work_parties work x.atom) (ok.form.some_party x.atom there) in
    let up = ranks.forward x.atom x.atom (sent-edge work x a.0 x.atom ok alive (target_is (sent_to x a.0) x.atom (all_at (λ b. same_target (sent_to x b) (Some x.atom)) (work_parties work x.atom) a.0 sends a.1))) in
    let no_more : ⊥ = omega (arith, up) in no_more)
