-- Occurrences by a policy come to an end: in a sound deterministic negotiation they lead from each reached marking to the
-- final one.
use Rattle.std.proofs.Common.{◌≡◌, ◌⊎◌, inl, inr, ⊎_elim, ℕ, zero, suc, ◌+◌, ◌≤◌, List, [], ◌∷◌, length, Some, IsTrue, refl, ap, ◌∙◌, arith}
use Rattle.std.proofs.lemmas.List.Elements.{All-nil, All-cons}
use Rattle.nego_base.specs.Members.{is_in}
use Rattle.nego_base.proofs.Members.{is_in_none}
use Rattle.nego_model.specs.Negotiation.{Negotiation, IsNegotiation, IsDeterministic}
use Rattle.nego_model.specs.Occurring.{PlainMarking, Occurrence, moved, after, leaves, final_marking, IsSound}
use Rattle.nego_model.specs.Policy.{Policy, AreChosen, IsCompletedBy}
use Rattle.nego_model.proofs.occurrence.Markings.{enables-atom}
use Rattle.nego_model.proofs.occurrence.Steps.{after-some, after_from, leaves-first, leaves_from_first}
use Rattle.nego_model.proofs.occurrence.ReachedMarkings.{IsReached, reached-after}
use Rattle.nego_model.proofs.occurrence.Ways.{sound_leads}
use Rattle.nego_model.proofs.completeness.Counting.{times, times-none, total, Guided, targets, between, at_most}

module _ (nego : Negotiation) (sound : IsSound nego) (choice : ℕ → ℕ) (own : (n : ℕ) → IsTrue (is_in n nego.atoms) → IsTrue (is_in (choice n) (nego.outcomes n))) where
  -- chosen occurrences that lead to the final marking, or as many as one likes
  abbrev pub GoesOn : ℕ → PlainMarking → Type 0
  GoesOn count from = ((steps : List Occurrence) × IsCompletedBy nego choice from steps)
      ⊎ ((steps : List Occurrence) × (to : PlainMarking) × AreChosen choice steps × (leaves nego from steps ≡ Some to) × (length steps ≡ count))

  pub goes_on : (count : ℕ) (from : PlainMarking) → IsReached nego from → GoesOn count from
  goes_on zero from reached = inr ([], from, All-nil (λ s. s.1 ≡ choice s.0), refl, refl)
  goes_on (suc count) from reached = let way = sound_leads nego sound from reached in first (goes_on count) way.steps way.leads
    where
      first : ((marking : PlainMarking) → IsReached nego marking → GoesOn count marking) → (steps : List Occurrence) → leaves nego from steps ≡ Some (final_marking nego) → GoesOn (suc count) from
      first rest [] e = inl ([], record { chosen = All-nil (λ s. s.1 ≡ choice s.0); ends = e })
      first rest (step ∷ steps) e =
          let k = leaves-first nego from step steps (final_marking nego) e in
          let enabled = (after-some nego from step k.0 k.1).0 in
          let chosen : Occurrence = (step.0, choice step.0) in
          let next : PlainMarking = moved 0 (nego.parties step.0) (nego.next (choice step.0)) from in
          let occurs : after nego from chosen ≡ Some next = after_from nego from chosen enabled (own step.0 (enables-atom nego from step.0 enabled)) in
          ⊎_elim
          (λ done.
          inl (
            chosen ∷ done.0,
            record {
              chosen = All-cons (λ s. s.1 ≡ choice s.0) chosen done.0 refl done.1.chosen;
              ends = leaves_from_first nego from chosen done.0 next occurs ∙ done.1.ends;
            },
          ))
          (λ more.
          inr (
            chosen ∷ more.0,
            more.1,
            All-cons (λ s. s.1 ≡ choice s.0) chosen more.0 refl more.2,
            leaves_from_first nego from chosen more.0 next occurs ∙ more.3,
            ap suc more.4,
          ))
          (rest next (reached-after nego from next chosen reached occurs))

module _ (nego : Negotiation) (ok : IsNegotiation nego) (single : IsDeterministic nego) (policy : Policy nego) where
  -- the guides of a policy
  abbrev pub guided : Guided nego
  guided = record { choice = policy.choice; guide = policy.guide; own = policy.own; party = policy.party }

  -- no atom follows the last
  none_behind_last : targets nego ok single guided nego.last ≡ []
  none_behind_last = ok.last_ends (policy.choice nego.last) (policy.guide nego.last) (ok.last_there, policy.own nego.last ok.last_there)

  -- which occurs once at most
  last_once : (steps : List Occurrence) (from to : PlainMarking) → IsReached nego from → AreChosen policy.choice steps → leaves nego from steps ≡ Some to → times (nego.last ∷ []) steps ≤ 1
  last_once steps from to reached chosen e =
      let more = (between nego ok single guided nego.last ok.last_there (λ back. is_in_none nego.last (targets nego ok single guided nego.last) none_behind_last back) steps from to reached chosen e).0 in
      let none : times (targets nego ok single guided nego.last) steps ≡ 0 = ap (λ ms. times ms steps) none_behind_last ∙ times-none steps in
      omega (arith, more, none)

  -- chosen occurrences lead from a reached marking to the final one
  pub completed : IsSound nego → (from : PlainMarking) → IsReached nego from → (steps : List Occurrence) × IsCompletedBy nego policy.choice from steps
  completed sound from reached =
      ⊎_elim (λ done. done)
      (λ more.
      let few =
      at_most nego ok single guided nego.last policy.distance (λ n m there other. policy.nearer n m there) more.0 from more.1 reached more.2 more.3 1 (omega arith)
      (last_once more.0 from more.1 reached more.2 more.3) in
      let many = more.4 in
      absurd (let no_more : ⊥ = omega (arith, few, many) in no_more))
      (goes_on nego sound policy.choice policy.own (suc (total (λ n. policy.distance n + 1) nego.atoms)) from reached)
