-- Laws of where occurrences lead.
use Rattle.std.proofs.Common.{◌≡◌, ℕ, List, [], ◌∷◌, ◌++◌, Some, refl, subst, ◌∙◌}
use Rattle.std.proofs.lemmas.Option.{same_Some}
use Rattle.nego_model.specs.Negotiation.{Negotiation}
use Rattle.nego_model.specs.Occurring.{PlainMarking, Occurrence, after, leaves}
use Rattle.nego_model.specs.Joining.{Relation, Joins}
use Rattle.nego_model.specs.Reaching.{Reaches}
use Rattle.nego_model.proofs.occurrence.Steps.{leaves-first, leaves_through, leaves_one}
use Rattle.nego_model.proofs.occurrence.Joined.{Joins-empty, same_from_empty, Joins_first, joins_from_first, Joins_through, Joins_one}

-- Some occurrences lead from a marking to another.
pub record Leads (nego : Negotiation) (from to : PlainMarking) : Type 0 where
  pub steps : List Occurrence
  pub leads : leaves nego from steps ≡ Some to

-- a marking leads to itself
pub Leads-itself : (nego : Negotiation) (marking : PlainMarking) → Leads nego marking marking
Leads-itself nego marking = record { steps = []; leads = refl }

-- an occurrence leads to what it leaves
pub Leads_one : (nego : Negotiation) (from to : PlainMarking) (step : Occurrence) → after nego from step ≡ Some to → Leads nego from to
Leads_one nego from to step h = record { steps = step ∷ []; leads = leaves_one nego from step ∙ h }

-- where a marking leads, what that leads to is led to
pub Leads_through : (nego : Negotiation) (from between to : PlainMarking) → Leads nego from between → Leads nego between to → Leads nego from to
Leads_through nego from between to h k = record {
  steps = h.steps ++ k.steps;
  leads = leaves_through nego from h.steps k.steps between h.leads ∙ k.leads;
}

module _ (nego : Negotiation) (relation : Relation) where
  -- a marking and data reach themselves
  pub Reaches-itself : (marking : PlainMarking) (d : ℕ) → Reaches nego relation marking d marking d
  Reaches-itself marking d = record { steps = []; leads = refl; joins = Joins-empty relation d }

  -- an occurrence reaches what it leaves, and what its outcome relates
  pub Reaches_one : (from : PlainMarking) (d : ℕ) (to : PlainMarking) (e : ℕ) (step : Occurrence) → after nego from step ≡ Some to → relation step.1 d e → Reaches nego relation from d to e
  Reaches_one from d to e step h k = record { steps = step ∷ []; leads = leaves_one nego from step ∙ h; joins = Joins_one relation step d e k }

  -- what is reached from what is reached is reached
  pub Reaches_through : (from : PlainMarking) (d : ℕ) (between : PlainMarking) (c : ℕ) (to : PlainMarking) (e : ℕ) → Reaches nego relation from d between c → Reaches nego relation between c to e →
      Reaches nego relation from d to e
  Reaches_through from d between c to e h k = record {
    steps = h.steps ++ k.steps;
    leads = leaves_through nego from h.steps k.steps between h.leads ∙ k.leads;
    joins = Joins_through relation h.steps k.steps d c e h.joins k.joins;
  }

  -- an occurrence, and what is reached from there
  pub Reaches_first : (from : PlainMarking) (d : ℕ) (between : PlainMarking) (c : ℕ) (to : PlainMarking) (e : ℕ) (step : Occurrence) → after nego from step ≡ Some between → relation step.1 d c →
      Reaches nego relation between c to e → Reaches nego relation from d to e
  Reaches_first from d between c to e step h k more = Reaches_through from d between c to e (Reaches_one from d between c step h k) more

  -- what is reached, and an occurrence from there
  pub Reaches_then : (from : PlainMarking) (d : ℕ) (between : PlainMarking) (c : ℕ) (to : PlainMarking) (e : ℕ) (step : Occurrence) → Reaches nego relation from d between c →
      after nego between step ≡ Some to → relation step.1 c e → Reaches nego relation from d to e
  Reaches_then from d between c to e step more h k = Reaches_through from d between c to e more (Reaches_one between c to e step h k)

  -- what holds at the start, and holds behind an occurrence where it held before, holds of all that is reached
  pub reached_by_last {ℓ} : (from : PlainMarking) (d : ℕ) (P : PlainMarking → ℕ → Type ℓ) → P from d →
      ((between : PlainMarking) (c : ℕ) (to : PlainMarking) (e : ℕ) (step : Occurrence) → Reaches nego relation from d between c → P between c → after nego between step ≡ Some to → relation step.1 c e → P to e) →
      (to : PlainMarking) (e : ℕ) → Reaches nego relation from d to e → P to e
  reached_by_last from d P start step_holds to e h = go h.steps from d (Reaches-itself from d) start h.leads h.joins
    where
      go : (steps : List Occurrence) (between : PlainMarking) (c : ℕ) → Reaches nego relation from d between c → P between c → leaves nego between steps ≡ Some to → Joins relation steps c e → P to e
      go [] between c more p l j = subst (λ m. P m e) (same_Some between to l) (subst (P between) (same_from_empty relation c e j) p)
      go (step ∷ steps) between c more p l j =
          let m = leaves-first nego between step steps to l in
          let k = joins_from_first relation step steps c e j in
          go steps m.0 k.0 (Reaches_then from d between c m.0 k.0 step more m.1 k.1) (step_holds between c m.0 k.0 step more p m.1 k.1) m.2 k.2

  -- a marking leads to what is reached from it
  pub Leads-from_reaches : (from : PlainMarking) (d : ℕ) (to : PlainMarking) (e : ℕ) → Reaches nego relation from d to e → Leads nego from to
  Leads-from_reaches from d to e h = record { steps = h.steps; leads = h.leads }

  -- what a marking leads to is reached with data that every outcome relates to themselves
  pub Reaches-from_leads : (from to : PlainMarking) (d : ℕ) → ((o : ℕ) → relation o d d) → Leads nego from to → Reaches nego relation from d to d
  Reaches-from_leads from to d same h = record { steps = h.steps; leads = h.leads; joins = joins h.steps }
    where
      joins : (steps : List Occurrence) → Joins relation steps d d
      joins [] = Joins-empty relation d
      joins (step ∷ steps) = Joins_first relation step steps d d d (same step.1) (joins steps)
