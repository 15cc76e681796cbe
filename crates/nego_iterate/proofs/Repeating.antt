-- An outcome that sends its parties back is put, any number of times, before the other outcomes of its atom: both
-- negotiations are sound alike, and their complete runs relate the same.
use Rattle.std.proofs.Common.{◌≡◌, ◌≢◌, ◌⊎◌, ◌↔◌, inl, inr, ⊎_elim, ℕ, ◌<◌, List, [], ◌∷◌, ◌++◌, length, Some, IsTrue, refl, sym, subst, ap, ◌∙◌}
use Rattle.std.proofs.lemmas.Bool.{cases_eq}
use Rattle.nego_base.specs.Members.{is_in}
use Rattle.nego_base.proofs.Members.{in_or_not, is_in_single}
use Rattle.nego_data.specs.Data.{data_count}
use Rattle.nego_data.proofs.Acting.{acts_commute}
use Rattle.nego_model.specs.Negotiation.{Negotiation, IsNegotiation, IsDeterministic, IsOutcome}
use Rattle.nego_model.specs.Occurring.{PlainMarking, Occurrence, ready, moved, enables, after, opening_marking, IsSound}
use Rattle.nego_model.specs.Joining.{Relation, Runs}
use Rattle.nego_model.specs.Expression.{IsPath}
use Rattle.nego_model.specs.Reaching.{all_at_last, Reaches, EndsAtLast}
use Rattle.nego_model.specs.Locality.{IsLocal}
use Rattle.nego_model.specs.Projection.{AreApart}
use Rattle.nego_model.proofs.occurrence.Markings.{length-moved, ready-moved_party, ready-moved_other, same_markings, enables-party}
use Rattle.nego_model.proofs.occurrence.Steps.{after-some, after-outcome, after_from}
use Rattle.nego_model.proofs.occurrence.Reached.{Leads, Leads-itself, Leads_one, Leads-from_reaches, Reaches-itself, Reaches_one, Reaches_first, Reaches_then, reached_by_last}
use Rattle.nego_model.proofs.occurrence.Proper.{IsProper, IsSingle, opening-proper, opening-single, after-proper, after-single, ready_alone}
use Rattle.nego_model.proofs.expressions.Nodes.{IsPath_one, IsPath_through}
use Rattle.nego_model.proofs.occurrence.Gathered.{all_ready-enabled}
use Rattle.nego_model.proofs.occurrence.Commuting.{enabled_behind, enabled_apart, Reaches-below}
use Rattle.nego_model.proofs.expressions.Acting.{ActsOn-star}
use Rattle.nego_model.proofs.occurrence.Ways.{runs_pass_all_at_last, Runs-from_all_at_last}
use Rattle.nego_model.proofs.simulation.Simulations.{SameAtoms, SameAtoms-turned, same-opening, same-all_at_last, same-after, Lasts, Lasts-led, StepsLed, StepsReached, Sound-same, Runs-same}
use Rattle.nego_iterate.proofs.Iterates.{Iterates}

-- What the second negotiation reaches where the atom n is enabled, and then the outcome o any number of times.
pub record Repeats (one two : Negotiation) (relation relation' : Relation) (n o : ℕ) (sizes : List ℕ) (from : PlainMarking) (d : ℕ) (to : PlainMarking) (e : ℕ) : Type 0 where
  pub enabled : IsTrue (enables one to n)
  pub before : ℕ
  pub below : before < data_count sizes
  pub way : Reaches two relation' from d to before
  pub path : List ℕ
  pub repeated : IsPath (relation o) before path e

module _ (one two : Negotiation) (relation relation' : Relation) (n o : ℕ) (it : Iterates one two relation relation' n o) (ok : IsNegotiation one) (single : IsDeterministic one) where
  -- both have the same atoms
  same : SameAtoms one two
  same = record { agents = it.agents; atoms = it.atoms; parties = it.parties; first = it.first; last = it.last }

  -- the markings that occur: each agent is ready for one atom at most
  abbrev Fits : PlainMarking → Type 0
  Fits m = IsProper one m × IsSingle one m

  opening_fits : Fits (opening_marking one)
  opening_fits = (opening-proper one ok, opening-single one)

  fits_last : Lasts one Fits
  fits_last from to step p h = (after-proper one ok from to step p.0 h, after-single one single from to step p.0.as_many p.1 h)

  -- ---- the outcome o

  -- the parties of n, ready for n, move back
  unmoved : (m : PlainMarking) → Fits m → IsTrue (enables one m n) → moved 0 (one.parties n) (one.next o) m ≡ m
  unmoved m fits h =
      same_markings (moved 0 (one.parties n) (one.next o) m) m (length-moved 0 (one.parties n) (one.next o) m)
      (λ a l. each a (subst (λ k. a < k) (length-moved 0 (one.parties n) (one.next o) m) l))
    where
      each : (a : ℕ) → a < length m → ready (moved 0 (one.parties n) (one.next o) m) a ≡ ready m a
      each a l = ⊎_elim
          (λ p. ready-moved_party (one.parties n) (one.next o) m a l p
          ∙ (it.back a p ∙ sym (ready_alone one m a n fits.0 fits.1 (subst (λ k. a < k) fits.0.as_many l) (enables-party one m n a h p))))
          (λ other. ready-moved_other (one.parties n) (one.next o) m a l other)
          (in_or_not a (one.parties n))

  -- it leaves the marking as it is
  loops : (m : PlainMarking) → Fits m → IsTrue (enables one m n) → after one m (n, o) ≡ Some m
  loops m fits h = after_from one m (n, o) h it.own.1 ∙ ap (λ k. Some k) (unmoved m fits h)

  -- an occurrence with it is of n
  own_atom : (from to : PlainMarking) (step : Occurrence) → after one from step ≡ Some to → step.1 ≡ o → step.0 ≡ n
  own_atom from to step h e = ok.one_atom step.0 n o (subst (λ q. IsOutcome one step.0 q) e (after-outcome one from step to h)) it.own

  -- what occurs is enabled
  enabled_there : (from to : PlainMarking) (step : Occurrence) → after one from step ≡ Some to → step.0 ≡ n → IsTrue (enables one from n)
  enabled_there from to step h e = subst (λ p. IsTrue (enables one from p)) e (after-some one from step to h).0

  stays : (from to : PlainMarking) (step : Occurrence) → Fits from → after one from step ≡ Some to → step.1 ≡ o → to ≡ from
  stays from to step fits h e =
      let a : step.0 ≡ n = own_atom from to step h e in
      let k : after one from (n, o) ≡ Some to = subst (λ p. after one from (p, o) ≡ Some to) a (subst (λ q. after one from (step.0, q) ≡ Some to) e h) in
      let s = after-some one from (n, o) to k in
      sym s.2 ∙ unmoved from fits s.0

  -- ---- the other outcomes

  -- an occurrence of the one with another outcome is one of the other
  kept_step : (from to : PlainMarking) (step : Occurrence) → after one from step ≡ Some to → step.1 ≢ o → after two from step ≡ Some to
  kept_step from to step h other =
      let k = after-outcome one from step to h in
      same-after one two same from to step.0 step.1 step.1 h (it.kept step.0 step.1 k other).1 (λ a p. it.next step.0 step.1 a k other p)

  -- and the other has no more
  step_back : (from to : PlainMarking) (step : Occurrence) → after two from step ≡ Some to → (after one from step ≡ Some to) × (step.1 ≢ o)
  step_back from to step h =
      let k = it.only step.0 step.1 (after-outcome two from step to h) in (
        same-after two one (SameAtoms-turned one two same) from to step.0 step.1 step.1 h k.0.1
            (λ a p. sym (it.next step.0 step.1 a k.0 k.1 (subst (λ xs. IsTrue (is_in a xs)) (sym (it.parties step.0 k.0.0)) p))),
        k.1,
      )

  -- ---- soundness

  fits_last_two : Lasts two Fits
  fits_last_two from to step p h = fits_last from to step p (step_back from to step h).0

  opening_fits_two : Fits (opening_marking two)
  opening_fits_two = subst Fits (same-opening one two same) opening_fits

  led : StepsLed one two Fits
  led from to step p h = ⊎_elim
      (λ e. subst (λ m. Leads two from m) (sym (stays from to step p h e)) (Leads-itself two from))
      (λ other. Leads_one two from to step (kept_step from to step h other))
      (cases_eq step.1 o)

  led_back : StepsLed two one Fits
  led_back from to step p h = Leads_one one from to step (step_back from to step h).0

  -- The one is sound exactly where the other is.
  pub iterates_sound : IsSound one ↔ IsSound two
  iterates_sound = (
    Sound-same one two Fits Fits same opening_fits opening_fits_two fits_last fits_last_two led led_back,
    Sound-same two one Fits Fits (SameAtoms-turned one two same) opening_fits_two opening_fits fits_last_two fits_last led_back led,
  )

  -- ---- what the first reaches

  module _ (sizes : List ℕ) (local : IsLocal one sizes relation) (start : PlainMarking) (d : ℕ) (fits : Fits start) (below : d < data_count sizes) where
    abbrev Repeated : PlainMarking → ℕ → Type 0
    Repeated m e = Repeats one two relation relation' n o sizes start d m e

    -- the second reaches it, or reaches it where o is put any number of times before what comes next
    abbrev Follows : PlainMarking → ℕ → Type 0
    Follows m e = Reaches two relation' start d m e ⊎ Repeated m e

    fits_at : (m : PlainMarking) (c : ℕ) → Reaches one relation start d m c → Fits m
    fits_at m c h = Lasts-led one Fits fits_last start m fits (Leads-from_reaches one relation start d m c h)

    -- where n is enabled, o may have been put no times
    waiting : (m : PlainMarking) (c : ℕ) → Reaches one relation start d m c → IsTrue (enables one m n) → Follows m c → Repeated m c
    waiting m c h k (inl way) = record { enabled = k; before = c; below = Reaches-below one sizes relation local start d m c below h; way = way; path = []; repeated = refl }
    waiting m c h k (inr w) = w

    -- once more
    once_more : (m : PlainMarking) (c e : ℕ) → Repeated m c → relation o c e → Repeated m e
    once_more m c e w r = record {
      enabled = w.enabled;
      before = w.before;
      below = w.below;
      way = w.way;
      path = w.path ++ e ∷ [];
      repeated = IsPath_through (relation o) w.path (e ∷ []) w.before c e w.repeated (IsPath_one (relation o) c e r);
    }

    -- an occurrence of another atom may come before what o did
    beside : (m : PlainMarking) (c : ℕ) (to : PlainMarking) (e : ℕ) (step : Occurrence) → Fits m → Repeated m c → after one m step ≡ Some to → relation step.1 c e → step.0 ≢ n → step.1 ≢ o → Repeated to e
    beside m c to e step p w h r other differs = record {
      enabled = subst (λ k. IsTrue (enables one k n)) s.2 (enabled_behind one m n (one.parties step.0) (one.next step.1) w.enabled apart);
      before = q.0;
      below = (local step.0 step.1 outcome).stays w.before q.0 w.below q.1;
      way = Reaches_then two relation' start d m w.before to q.0 step w.way (kept_step m to step h differs) ((it.same step.0 step.1 w.before q.0 outcome other).0 q.1);
      path = q.2.0;
      repeated = q.2.1;
    }
      where
        s : IsTrue (enables one m step.0) × IsTrue (is_in step.1 (one.outcomes step.0)) × (moved 0 (one.parties step.0) (one.next step.1) m ≡ to)
        s = after-some one m step to h

        outcome : IsOutcome one step.0 step.1
        outcome = after-outcome one m step to h

        apart : AreApart (one.parties step.0) (one.parties n)
        apart = enabled_apart one ok m step.0 n p.1 s.0 w.enabled other

        q : (b : ℕ) × relation step.1 w.before b × ((path : List ℕ) × IsPath (relation o) b path e)
        q = acts_commute sizes (one.parties n) (one.parties step.0) (λ a b. (path : List ℕ) × IsPath (relation o) a path b) (relation step.1)
            (ActsOn-star sizes (one.parties n) (relation o) (local n o it.own)) (local step.0 step.1 outcome) (λ a x y. apart a y x) w.before c e w.below (w.path, w.repeated) r

    step_follows : (m : PlainMarking) (c : ℕ) (to : PlainMarking) (e : ℕ) (step : Occurrence) → Reaches one relation start d m c → Follows m c → after one m step ≡ Some to → relation step.1 c e → Follows to e
    step_follows m c to e step h p s r = ⊎_elim repeating differing (cases_eq step.1 o)
      where
        repeating : step.1 ≡ o → Follows to e
        repeating q =
            let w = waiting m c h (enabled_there m to step s (own_atom m to step s q)) p in
            inr (subst (λ k. Repeated k e) (sym (stays m to step (fits_at m c h) s q)) (once_more m c e w (subst (λ x. relation x c e) q r)))

        leaving : step.1 ≢ o → step.0 ≡ n → Follows to e
        leaving other q =
            let w = waiting m c h (enabled_there m to step s q) p in
            let outcome : IsOutcome one n step.1 = subst (λ x. IsOutcome one x step.1) q (after-outcome one m step to s) in
            inl (Reaches_then two relation' start d m w.before to e step w.way (kept_step m to step s other) ((it.again step.1 w.before e outcome other).1 (c, (w.path, w.repeated), r)))

        elsewhere : step.1 ≢ o → step.0 ≢ n → Follows to e
        elsewhere other apart = ⊎_elim
            (λ way. inl (Reaches_then two relation' start d m c to e step way (kept_step m to step s other) ((it.same step.0 step.1 c e (after-outcome one m step to s) apart).0 r)))
            (λ w. inr (beside m c to e step (fits_at m c h) w s r apart other))
            p

        differing : step.1 ≢ o → Follows to e
        differing other = ⊎_elim (λ q. leaving other q) (λ apart. elsewhere other apart) (cases_eq step.0 n)

    forward : (to : PlainMarking) (e : ℕ) → Reaches one relation start d to e → Follows to e
    forward to e h = reached_by_last one relation start d Follows (inl (Reaches-itself two relation' start d)) step_follows to e h

  -- where everyone is at the last atom, n isn't enabled
  not_at_last : IsTrue (enables one (all_at_last one) n) → ⊥
  not_at_last h = it.not_last (is_in_single n one.last (all_ready-enabled one ok (one.last ∷ []) n h))

  way_forward : (sizes : List ℕ) → IsLocal one sizes relation → (d c : ℕ) → d < data_count sizes → Reaches one relation (opening_marking one) d (all_at_last one) c → Reaches two relation' (opening_marking one) d (all_at_last one) c
  way_forward sizes local d c below h = ⊎_elim (λ way. way) (λ w. absurd (not_at_last w.enabled)) (forward sizes local (opening_marking one) d opening_fits below (all_at_last one) c h)

  -- ---- what the second reaches

  -- the outcome o, as often as wanted
  repeated_steps : (m : PlainMarking) → Fits m → IsTrue (enables one m n) → (path : List ℕ) (d c : ℕ) → IsPath (relation o) d path c → Reaches one relation m d m c
  repeated_steps m fits h [] d c k = subst (λ x. Reaches one relation m d m x) k (Reaches-itself one relation m d)
  repeated_steps m fits h (b ∷ path) d c k = Reaches_first one relation m d m b m c (n, o) (loops m fits h) k.0 (repeated_steps m fits h path b c k.1)

  reached_back : StepsReached two relation' one relation Fits
  reached_back from to d e step p h r = ⊎_elim leaving elsewhere (cases_eq step.0 n)
    where
      k : (after one from step ≡ Some to) × (step.1 ≢ o)
      k = step_back from to step h

      outcome : IsOutcome one step.0 step.1
      outcome = after-outcome one from step to k.0

      leaving : step.0 ≡ n → Reaches one relation from d to e
      leaving q =
          let m = (it.again step.1 d e (subst (λ x. IsOutcome one x step.1) q outcome) k.1).0 r in
          Reaches_then one relation from d from m.0 to e step (repeated_steps from p (enabled_there from to step k.0 q) m.1.0 d m.0 m.1.1) k.0 m.2

      elsewhere : step.0 ≢ n → Reaches one relation from d to e
      elsewhere other = Reaches_one one relation from d to e step k.0 ((it.same step.0 step.1 d e outcome other).1 r)

  -- ---- complete runs

  module _ (ok' : IsNegotiation two) (single' : IsDeterministic two) (f d e : ℕ) where
    runs_forward : (sizes : List ℕ) → IsLocal one sizes relation → d < data_count sizes → Runs one relation f d e → Runs two relation' f d e
    runs_forward sizes local below h = Runs-from_all_at_last two relation' f d e ok' (record {
      before = k.before;
      way = subst (λ to. Reaches two relation' (opening_marking two) d to k.before) (same-all_at_last one two same)
          (subst (λ from. Reaches two relation' from d (all_at_last one) k.before) (same-opening one two same) (way_forward sizes local d k.before below k.way));
      last = (it.same one.last f k.before e k.outcome (λ q. it.not_last (sym q))).0 k.last;
      outcome = subst (λ m. IsOutcome two m f) it.last
          (it.kept one.last f k.outcome (λ q. it.not_last (ok.one_atom n one.last o it.own (subst (λ x. IsOutcome one one.last x) q k.outcome))));
    })
      where
        k : EndsAtLast one relation f d e
        k = runs_pass_all_at_last one relation f d e ok single h

    runs_back : IsOutcome one one.last f → Runs two relation' f d e → Runs one relation f d e
    runs_back outcome h =
        Runs-same two relation' one relation Fits (SameAtoms-turned one two same) ok' single' ok opening_fits_two fits_last_two reached_back f
        (λ k. outcome.1) (λ c b. (it.same one.last f c b outcome (λ q. it.not_last (sym q))).1) d e h

    -- The complete runs with a final outcome relate the same.
    pub iterates_runs : (sizes : List ℕ) → IsLocal one sizes relation → d < data_count sizes → IsOutcome one one.last f → Runs one relation f d e ↔ Runs two relation' f d e
    iterates_runs sizes local below outcome = (λ h. runs_forward sizes local below h, λ h. runs_back outcome h)
