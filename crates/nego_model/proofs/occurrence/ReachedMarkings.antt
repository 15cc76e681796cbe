-- Markings that the opening one leads to, and what an agent is ready for behind an occurrence.
use Rattle.std.proofs.Common.{◌≡◌, ℕ, ◌<◌, [], ◌∷◌, length, Some, IsTrue, sym, subst, ap, ◌∙◌}
use Rattle.std.proofs.lemmas.List.{length-replicate}
use Rattle.nego_base.specs.Members.{is_in}
use Rattle.nego_model.specs.Negotiation.{Negotiation, IsNegotiation, IsDeterministic}
use Rattle.nego_model.specs.Occurring.{PlainMarking, Occurrence, ready, after, opening_marking}
use Rattle.nego_model.proofs.occurrence.Markings.{ready-moved_party, ready-moved_other}
use Rattle.nego_model.proofs.occurrence.Steps.{after-some, length-run}
use Rattle.nego_model.proofs.occurrence.Reached.{Leads, Leads_one, Leads_through}
use Rattle.nego_model.proofs.occurrence.Proper.{IsProper, IsSingle, opening-proper, opening-single, leaves-proper, leaves-single}

-- The opening marking leads to it.
abbrev pub IsReached : Negotiation → PlainMarking → Type 0
IsReached nego marking = Leads nego (opening_marking nego) marking

-- a party of what has occurred is ready for its next atoms
pub ready-after_party : (nego : Negotiation) (marking left : PlainMarking) (step : Occurrence) (a : ℕ) → a < length marking → after nego marking step ≡ Some left → IsTrue (is_in a (nego.parties step.0)) →
    ready left a ≡ nego.next step.1 a
ready-after_party nego marking left step a below e party =
    ap (λ m. ready m a) (sym (after-some nego marking step left e).2) ∙ ready-moved_party (nego.parties step.0) (nego.next step.1) marking a below party

-- who is no party is ready for the same as before
pub ready-after_other : (nego : Negotiation) (marking left : PlainMarking) (step : Occurrence) (a : ℕ) → a < length marking → after nego marking step ≡ Some left → ¬ IsTrue (is_in a (nego.parties step.0)) →
    ready left a ≡ ready marking a
ready-after_other nego marking left step a below e other =
    ap (λ m. ready m a) (sym (after-some nego marking step left e).2) ∙ ready-moved_other (nego.parties step.0) (nego.next step.1) marking a below other

module _ (nego : Negotiation) where
  -- what an occurrence leaves is reached
  pub reached-after : (marking left : PlainMarking) (step : Occurrence) → IsReached nego marking → after nego marking step ≡ Some left → IsReached nego left
  reached-after marking left step h e = Leads_through nego (opening_marking nego) marking left h (Leads_one nego marking left step e)

  -- a reached marking has a list for each agent
  pub reached-below : (marking : PlainMarking) (a : ℕ) → IsReached nego marking → a < nego.agents → a < length marking
  reached-below marking a h below = subst (λ count. a < count) (sym (length-run nego h.steps marking h.leads)) below

  -- in it each agent is ready for one atom at most
  pub reached-single : IsDeterministic nego → (marking : PlainMarking) → IsReached nego marking → IsSingle nego marking
  reached-single single marking h =
      leaves-single nego single (opening_marking nego) marking h.steps (length-replicate nego.agents (nego.first ∷ [])) (opening-single nego) h.leads

  -- in it each agent has a rising list of atoms of which it is a party
  pub reached-proper : IsNegotiation nego → (marking : PlainMarking) → IsReached nego marking → IsProper nego marking
  reached-proper ok marking h = leaves-proper nego ok (opening_marking nego) marking h.steps (opening-proper nego ok) h.leads
