-- The ranks that an order gives to atoms: each edge leads to an atom of a greater rank.
use Rattle.std.proofs.Common.{◌≡◌, ◌≢◌, ⊎_elim, ℕ, ◌+◌, ◌<◌, ◌≤◌, ◌==◌, List, [], ◌∷◌, length, get_or, Some, IsTrue, suc, refl, sym, subst, ap, ◌∙◌, arith, eq-eqb, ne_eqb}
use Rattle.std.proofs.lemmas.Bool.{cases_eq, cases_order, cond-true, cond-false}
use Rattle.std.proofs.lemmas.List.{length-replicate}
use Rattle.nego_base.specs.Members.{is_in}
use Rattle.nego_base.proofs.Members.{in_or_not, is_in-cases, is_in_none, is_in_single}
use Rattle.nego_model.specs.Negotiation.{Negotiation, IsNegotiation}
use Rattle.nego_model.specs.Occurring.{PlainMarking, Occurrence, ready, after, opening_marking}
use Rattle.nego_model.specs.Acyclic.{IsEdge, IsForwardOrder, rank_in, IsRankedBy}
use Rattle.nego_model.proofs.occurrence.Markings.{ready-replicate, enables-atom, enables-party}
use Rattle.nego_model.proofs.occurrence.Steps.{after-some, length-after}
use Rattle.nego_model.proofs.occurrence.ReachedMarkings.{IsReached, ready-after_party, ready-after_other}
use Rattle.nego_model.proofs.simulation.Simulations.{Lasts, Lasts-led}

-- a member stands at its place
pub ranked : (n : ℕ) (order : List ℕ) → IsTrue (is_in n order) → (rank_in order n < length order) × ((d : ℕ) → get_or order (rank_in order n) d ≡ n)
ranked n [] h = absurd (is_in_none n [] refl h)
ranked n (m ∷ order) h = ⊎_elim here (later (ranked n order)) (cases_eq m n)
  where
    At : ℕ → Type 0
    At k = (k < length (m ∷ order)) × ((d : ℕ) → get_or (m ∷ order) k d ≡ n)

    here : m ≡ n → At (rank_in (m ∷ order) n)
    here e = subst At (sym (cond-true (m == n) 0 (rank_in order n + 1) (eq-eqb m n e))) (omega arith, λ d. e)

    later : (IsTrue (is_in n order) → (rank_in order n < length order) × ((d : ℕ) → get_or order (rank_in order n) d ≡ n)) → m ≢ n → At (rank_in (m ∷ order) n)
    later more other =
        let k = more (⊎_elim (λ e. absurd (other (sym e))) (λ t. t) (is_in-cases n m order h)) in
        let below : rank_in order n < length order = k.0 in
        let next : suc (rank_in order n) ≡ rank_in order n + 1 = omega arith in
        subst At (sym (cond-false (m == n) 0 (rank_in order n + 1) (ne_eqb m n other))) (subst At next (omega (arith, below), λ d. k.1 d))

module _ (nego : Negotiation) (ok : IsNegotiation nego) (order : List ℕ) (goes : IsForwardOrder nego order) where
  -- an atom has a place in the order
  pub atom-ranked : (n : ℕ) → IsTrue (is_in n nego.atoms) → (rank_in order n < length order) × ((d : ℕ) → get_or order (rank_in order n) d ≡ n)
  atom-ranked n h = ranked n order (goes.atoms n ∙ h)

  -- an edge leads to an atom of a greater rank
  pub edge-ranked : (m n : ℕ) → IsEdge nego m n → rank_in order m < rank_in order n
  edge-ranked m n edge = ⊎_elim (λ e. absurd (loop e)) (λ h. ⊎_elim (λ l. l) (λ l. absurd (back l)) h) (cases_order (rank_in order m) (rank_in order n))
    where
      from : (rank_in order m < length order) × ((d : ℕ) → get_or order (rank_in order m) d ≡ m)
      from = atom-ranked m edge.own.0

      to : (rank_in order n < length order) × ((d : ℕ) → get_or order (rank_in order n) d ≡ n)
      to = atom-ranked n (ok.next_party m edge.outcome edge.agent n edge.own edge.leads).0

      loop : rank_in order m ≡ rank_in order n → ⊥
      loop e =
          let same : m ≡ n = sym (from.1 0) ∙ (ap (λ k. get_or order k 0) e ∙ to.1 0) in
          let P : ℕ → Type 0 = λ k. IsEdge nego k k → ⊥ in
          subst P (from.1 0) (goes.no_loop (rank_in order m) 0 from.0) (subst (IsEdge nego m) (sym same) edge)

      back : rank_in order n < rank_in order m → ⊥
      back l =
          let P : ℕ → Type 0 = λ k. IsEdge nego k (get_or order (rank_in order n) 0) → ⊥ in
          let Q : ℕ → Type 0 = λ k. IsEdge nego m k → ⊥ in
          subst Q (to.1 0) (subst P (from.1 0) (goes.forward (rank_in order n) (rank_in order m) 0 l from.0)) edge

-- a forward order ranks its negotiation
pub order-ranks : (nego : Negotiation) (order : List ℕ) → IsNegotiation nego → IsForwardOrder nego order → IsRankedBy nego order
order-ranks nego order ok goes = record { atoms = λ n h. goes.atoms n ∙ h; forward = edge-ranked nego ok order goes }

module _ (nego : Negotiation) (order : List ℕ) (ranks : IsRankedBy nego order) where
  abbrev rank : ℕ → ℕ
  rank n = rank_in order n

  -- a next atom of what has occurred has a greater rank
  pub goes_up : (marking left : PlainMarking) (step : Occurrence) (a q : ℕ) → after nego marking step ≡ Some left → IsTrue (is_in q (nego.next step.1 a)) → rank step.0 < rank q
  goes_up marking left step a q e m =
      let k = after-some nego marking step left e in
      ranks.forward step.0 q (record { outcome = step.1; agent = a; own = (enables-atom nego marking step.0 k.0, k.1); leads = m })

  -- nobody comes to an atom of a lesser rank than the first
  pub first_is_least : (marking : PlainMarking) → IsReached nego marking → (a q : ℕ) → a < nego.agents → IsTrue (is_in q (ready marking a)) → rank nego.first ≤ rank q
  first_is_least marking reached = (Lasts-led nego Behind lasts (opening_marking nego) marking (length-replicate nego.agents (nego.first ∷ []), opening) reached).1
    where
      Behind : PlainMarking → Type 0
      Behind m = (length m ≡ nego.agents) × ((a q : ℕ) → a < nego.agents → IsTrue (is_in q (ready m a)) → rank nego.first ≤ rank q)

      opening : (a q : ℕ) → a < nego.agents → IsTrue (is_in q (ready (opening_marking nego) a)) → rank nego.first ≤ rank q
      opening a q below m =
          let same : q ≡ nego.first = is_in_single q nego.first (subst (λ xs. IsTrue (is_in q xs)) (ready-replicate nego.agents a (nego.first ∷ []) below) m) in
          let equal : rank q ≡ rank nego.first = ap rank same in
          omega (arith, equal)

      lasts : Lasts nego Behind
      lasts from left step h e = (
        length-after nego from step left e ∙ h.0,
        λ a q below m.
            let here : a < length from = subst (λ count. a < count) (sym h.0) below in
            ⊎_elim
            (λ moves.
            let least : rank nego.first ≤ rank step.0 = h.1 a step.0 below (enables-party nego from step.0 a (after-some nego from step left e).0 moves) in
            let up : rank step.0 < rank q = goes_up from left step a q e (subst (λ xs. IsTrue (is_in q xs)) (ready-after_party nego from left step a here e moves) m) in
            omega (arith, least, up))
            (λ other. h.1 a q below (subst (λ xs. IsTrue (is_in q xs)) (ready-after_other nego from left step a here e other) m))
            (in_or_not a (nego.parties step.0)),
      )
