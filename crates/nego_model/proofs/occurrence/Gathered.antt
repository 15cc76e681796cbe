-- Markings in which everyone is ready for one atom alone, as the opening marking and everyone at the last atom.
use Rattle.std.proofs.Common.{◌≡◌, ℕ, ◌<◌, List, [], ◌∷◌, length, replicate, Some, IsTrue, refl, sym, subst, ap, ◌∙◌}
use Rattle.std.proofs.lemmas.List.{length-replicate}
use Rattle.nego_base.specs.Members.{is_in}
use Rattle.nego_model.specs.Negotiation.{Negotiation, IsNegotiation}
use Rattle.nego_model.specs.Occurring.{PlainMarking, Occurrence, ready, moved, enables, after, final_marking}
use Rattle.nego_base.proofs.Members.{is_in_single, is_in_none, some_member}
use Rattle.nego_model.proofs.occurrence.Markings.{length-moved, ready-moved_party, ready-replicate, same_for_all, enables-atom, enables-party, enables_from}
use Rattle.nego_model.proofs.occurrence.Steps.{after-some, after_from}
use Rattle.nego_model.proofs.occurrence.CompleteRuns.{some_agent}

-- everyone is ready for these atoms
abbrev pub all_ready : Negotiation → List ℕ → PlainMarking
all_ready nego here = replicate nego.agents here

module _ (nego : Negotiation) (ok : IsNegotiation nego) where
  -- only atoms for which everyone is ready are enabled
  pub all_ready-enabled : (here : List ℕ) (n : ℕ) → IsTrue (enables nego (all_ready nego here) n) → IsTrue (is_in n here)
  all_ready-enabled here n h =
      let there = enables-atom nego (all_ready nego here) n h in
      let p = some_member (nego.parties n) (ok.some_party n there) in
      subst (λ xs. IsTrue (is_in n xs)) (ready-replicate nego.agents p.0 here (ok.party_below n p.0 there p.1))
      (enables-party nego (all_ready nego here) n p.0 h p.1)

  -- an atom for which everyone is ready is enabled
  pub all_ready-enables : (here : List ℕ) (n : ℕ) → IsTrue (is_in n nego.atoms) → IsTrue (is_in n here) → IsTrue (enables nego (all_ready nego here) n)
  all_ready-enables here n there h =
      enables_from nego (all_ready nego here) n there
      (λ a p. subst (λ xs. IsTrue (is_in n xs)) (sym (ready-replicate nego.agents a here (ok.party_below n a there p))) h)

  -- what occurs where everyone is ready for one atom alone is this atom
  pub after_gathered : (n : ℕ) (step : Occurrence) (left : PlainMarking) → after nego (all_ready nego (n ∷ [])) step ≡ Some left → step.0 ≡ n
  after_gathered n step left e = is_in_single step.0 n (all_ready-enabled (n ∷ []) step.0 (after-some nego (all_ready nego (n ∷ [])) step left e).0)

  -- where everyone is ready for nothing, nothing occurs
  pub after_nothing_ready : (step : Occurrence) (left : PlainMarking) → after nego (final_marking nego) step ≡ Some left → ⊥
  after_nothing_ready step left e = is_in_none step.0 [] refl (all_ready-enabled [] step.0 (after-some nego (final_marking nego) step left e).0)

  -- an outcome that sends everyone to the same atoms leaves everyone ready for these
  pub after_all_sent : (n o : ℕ) (here next : List ℕ) → IsTrue (is_in n nego.atoms) → IsTrue (is_in n here) → IsTrue (is_in o (nego.outcomes n)) →
      ((a : ℕ) → a < nego.agents → IsTrue (is_in a (nego.parties n)) × (nego.next o a ≡ next)) → after nego (all_ready nego here) (n, o) ≡ Some (all_ready nego next)
  after_all_sent n o here next there ready_for outcome sent =
      after_from nego (all_ready nego here) (n, o) (all_ready-enables here n there ready_for) outcome
      ∙ ap (λ m. Some m) (same_for_all nego.agents next (moved 0 (nego.parties n) (nego.next o) (all_ready nego here)) (length-moved 0 (nego.parties n) (nego.next o) (all_ready nego here) ∙ as_many)
      (λ a h. ready-moved_party (nego.parties n) (nego.next o) (all_ready nego here) a (subst (λ count. a < count) (sym as_many) h) (sent a h).0 ∙ (sent a h).1))
    where
      as_many : length (all_ready nego here) ≡ nego.agents
      as_many = length-replicate nego.agents here

  -- everyone is ready for the same where the markings are one
  pub all_ready-same : (here next : List ℕ) → all_ready nego here ≡ all_ready nego next → here ≡ next
  all_ready-same here next e =
      let h : 0 < nego.agents = some_agent nego ok in
      sym (ready-replicate nego.agents 0 here h) ∙ (ap (λ m. ready m 0) e ∙ ready-replicate nego.agents 0 next h)
