-- What a negotiation reaches in which an outcome has become itself and then the outcomes of an atom that it enters, the
-- other reaches too.
use Rattle.std.proofs.Common.{◌≡◌, ◌≢◌, ⊎_elim, ℕ, Some, subst}
use Rattle.nego_model.specs.Negotiation.{Negotiation, IsOutcome}
use Rattle.nego_model.specs.Occurring.{PlainMarking, Occurrence, after}
use Rattle.nego_model.specs.Joining.{Relation}
use Rattle.nego_model.specs.Reaching.{Reaches}
use Rattle.nego_model.proofs.occurrence.Steps.{after-outcome}
use Rattle.nego_model.proofs.occurrence.Reached.{Reaches-itself, Reaches_then, reached_by_last}
use Rattle.nego_shortcut.proofs.Shortens.{Shortens}
use Rattle.nego_shortcut.proofs.ShortReaches.{ReachesBackward}
use Rattle.nego_shortcut.proofs.ShortSteps.{kept_before, made_before, start_reached}

module _ (one two : Negotiation) (relation relation' : Relation) (m n o : ℕ) (behind : ℕ → ℕ) (short : Shortens one two relation relation' m n o behind) where
  -- an occurrence of the second is one of the first, or o and then an outcome of n
  then_before : (from : PlainMarking) (d : ℕ) (between : PlainMarking) (c : ℕ) (to : PlainMarking) (e : ℕ) (step : Occurrence) → Reaches one relation from d between c →
      after two between step ≡ Some to → relation' step.1 c e → Reaches one relation from d to e
  then_before from d between c to e step more h r = ⊎_elim kept made (short.only step.0 step.1 outcome)
    where
      outcome : IsOutcome two step.0 step.1
      outcome = after-outcome two between step to h

      kept : IsOutcome one step.0 step.1 × (step.1 ≢ o) → Reaches one relation from d to e
      kept k = Reaches_then one relation from d between c to e step more (kept_before short between to step k.0 k.1 h) ((short.same step.0 step.1 c e k.0 k.1 outcome.0).1 r)

      made : (step.0 ≡ m) × ((x : ℕ) × IsOutcome one n x × (step.1 ≡ behind x)) → Reaches one relation from d to e
      made k =
          let x : ℕ = k.1.0 in
          let w = made_before short between to x k.1.1 (subst (λ p. after two between (p, behind x) ≡ Some to) k.0 (subst (λ q. after two between (step.0, q) ≡ Some to) k.1.2 h)) in
          let t = (short.composed x c e k.1.1).0 (subst (λ q. relation' q c e) k.1.2 r) in
          Reaches_then one relation from d w.0 t.0 to e (n, x) (Reaches_then one relation from d between c w.0 t.0 (m, o) more w.1 t.1) w.2 t.2

  -- What the second reaches, the first reaches too; where the second hasn't n, nobody is ready for n there.
  pub short_backward : ReachesBackward one two relation relation' n
  short_backward from d to e proper start h = (
    reached_by_last two relation' from d (λ left c. Reaches one relation from d left c) (Reaches-itself one relation from d)
        (λ between c left b step way more k r. then_before from d between c left b step more k r) to e h,
    start_reached short from d to e start h,
  )
