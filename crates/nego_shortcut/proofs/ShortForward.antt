-- What a negotiation reaches, another reaches too in which an outcome has become itself and then the outcomes of an atom
-- that it enters; or that atom is due.
use Rattle.std.proofs.Common.{◌≡◌, ◌≢◌, ◌⊎◌, inl, inr, ⊎_elim, ℕ, ◌<◌, List, Some, IsTrue, sym, subst, ◌∙◌}
use Rattle.std.proofs.lemmas.Bool.{cases_eq, false≢true}
use Rattle.nego_base.specs.Members.{is_in}
use Rattle.nego_data.specs.Data.{data_count}
use Rattle.nego_model.specs.Negotiation.{Negotiation, IsNegotiation, IsDeterministic, IsOutcome}
use Rattle.nego_model.specs.Occurring.{PlainMarking, Occurrence, moved, enables, after}
use Rattle.nego_model.specs.Joining.{Relation}
use Rattle.nego_model.specs.Locality.{IsLocal}
use Rattle.nego_model.specs.Projection.{AreApart}
use Rattle.nego_model.specs.Reaching.{Reaches}
use Rattle.nego_base.proofs.Members.{some_member}
use Rattle.nego_model.proofs.occurrence.Markings.{enables-atom, enables-party}
use Rattle.nego_model.proofs.occurrence.Steps.{after-some, after-outcome, after_from}
use Rattle.nego_model.proofs.occurrence.Proper.{IsSingle, leaves-single}
use Rattle.nego_model.proofs.occurrence.Commuting.{enabled_behind, enabled_apart, steps_change_places, Reaches-below}
use Rattle.nego_model.proofs.occurrence.Reached.{Reaches-itself, Reaches_then, reached_by_last}
use Rattle.nego_shortcut.proofs.Shortens.{Shortens}
use Rattle.nego_shortcut.proofs.ShortReaches.{IsDue, MayStart, ReachesForward}
use Rattle.nego_shortcut.proofs.ShortSteps.{after_kept, entered, after_made, start_reached}

module _ (one two : Negotiation) (relation relation' : Relation) (m n o : ℕ) (behind : ℕ → ℕ) (sizes : List ℕ)
    (short : Shortens one two relation relation' m n o behind) (ok : IsNegotiation one) (single : IsDeterministic one) (local : IsLocal one sizes relation) where
  -- o is an outcome of m alone
  own_atom : (p q : ℕ) → IsOutcome one p q → q ≡ o → p ≡ m
  own_atom p q k e = ok.one_atom p m o (subst (λ z. IsOutcome one p z) e k) short.own

  -- n has a party
  some_party : (a : ℕ) × IsTrue (is_in a (one.parties n))
  some_party = some_member (one.parties n) (ok.some_party n short.atom)

  -- ---- behind what the second reaches

  -- an occurrence with another outcome than o, of an atom that stays, is one of the second
  then_kept : (from : PlainMarking) (d : ℕ) (between : PlainMarking) (c : ℕ) (to : PlainMarking) (e : ℕ) (step : Occurrence) → Reaches two relation' from d between c → step.1 ≢ o → IsTrue (is_in step.0 two.atoms) →
      after one between step ≡ Some to → relation step.1 c e → Reaches two relation' from d to e
  then_kept from d between c to e step more other there h r =
      Reaches_then two relation' from d between c to e step more (after_kept short between to step other there h) ((short.same step.0 step.1 c e (after-outcome one between step to h) other there).0 r)

  -- behind o, n is due
  then_due : (from : PlainMarking) (d : ℕ) (between : PlainMarking) (c : ℕ) (to : PlainMarking) (e : ℕ) → Reaches two relation' from d between c → after one between (m, o) ≡ Some to → relation o c e →
      IsDue one two relation relation' n from d to e
  then_due from d between c to e more h r = record {
    enabled = entered short between to h;
    follows = λ x left b k s.
        Reaches_then two relation' from d between c left b (m, behind x) more (after_made short between to left x h k) ((short.composed x c b (after-outcome one to (n, x) left k)).1 (e, r, s));
  }

  -- n stays where it is enabled
  due_stays : (marking : PlainMarking) → MayStart two n marking → IsTrue (enables one marking n) → IsTrue (is_in n two.atoms)
  due_stays marking (inl there) h = there
  due_stays marking (inr none) h = absurd (false≢true (sym (none some_party.0) ∙ enables-party one marking n some_party.0 h some_party.1))

  -- so does every atom
  enabled_stays : (marking : PlainMarking) (p : ℕ) → MayStart two n marking → IsTrue (enables one marking p) → IsTrue (is_in p two.atoms)
  enabled_stays marking p start h = ⊎_elim
      (λ q. subst (λ k. IsTrue (is_in k two.atoms)) (sym q) (due_stays marking start (subst (λ k. IsTrue (enables one marking k)) q h)))
      (λ q. short.atoms_kept p (enables-atom one marking p h) q)
      (cases_eq p n)

  -- an occurrence behind what the second reaches
  from_reached : (from : PlainMarking) (d : ℕ) (between : PlainMarking) (c : ℕ) (to : PlainMarking) (e : ℕ) (step : Occurrence) → MayStart two n between → Reaches two relation' from d between c →
      after one between step ≡ Some to → relation step.1 c e → Reaches two relation' from d to e ⊎ IsDue one two relation relation' n from d to e
  from_reached from d between c to e step start more h r = ⊎_elim
      (λ q.
      let p = own_atom step.0 step.1 (after-outcome one between step to h) q in
      inr (then_due from d between c to e more (subst (λ k. after one between (k, o) ≡ Some to) p (subst (λ z. after one between (step.0, z) ≡ Some to) q h)) (subst (λ z. relation z c e) q r)))
      (λ q. inl (then_kept from d between c to e step more q (enabled_stays between step.0 start (after-some one between step to h).0) h r))
      (cases_eq step.1 o)

  -- ---- where n is due

  -- an occurrence of an atom without a common party has another outcome than o
  apart_other : (p q : ℕ) → IsOutcome one p q → AreApart (one.parties p) (one.parties n) → q ≢ o
  apart_other p q k apart e =
      apart some_party.0 (subst (λ z. IsTrue (is_in some_party.0 (one.parties z))) (sym (own_atom p q k e)) (short.within some_party.0 some_party.1)) some_party.1

  -- behind an occurrence of another atom, n is due as before
  still_due : (from : PlainMarking) (d : ℕ) (between : PlainMarking) (c : ℕ) (to : PlainMarking) (e : ℕ) (step : Occurrence) → IsSingle one between → c < data_count sizes → IsDue one two relation relation' n from d between c →
      step.0 ≢ n → after one between step ≡ Some to → relation step.1 c e → IsDue one two relation relation' n from d to e
  still_due from d between c to e step alone below due other h r = record {
    enabled = subst (λ left. IsTrue (enables one left n)) s.2 (enabled_behind one between n (one.parties step.0) (one.next step.1) due.enabled apart);
    follows = λ x left b k t.
        let first = after_from one between (n, x) due.enabled (after-outcome one to (n, x) left k).1 in
        let w = steps_change_places one sizes relation local between to (moved 0 (one.parties n) (one.next x) between) left step (n, x) c e b below h r k t first apart in
        then_kept from d (moved 0 (one.parties n) (one.next x) between) w.1.0 left b step (due.follows x (moved 0 (one.parties n) (one.next x) between) w.1.0 first w.1.1)
        (apart_other step.0 step.1 outcome apart) (short.atoms_kept step.0 outcome.0 other) w.0 w.1.2;
  }
    where
      s : IsTrue (enables one between step.0) × IsTrue (is_in step.1 (one.outcomes step.0)) × (moved 0 (one.parties step.0) (one.next step.1) between ≡ to)
      s = after-some one between step to h

      outcome : IsOutcome one step.0 step.1
      outcome = after-outcome one between step to h

      apart : AreApart (one.parties step.0) (one.parties n)
      apart = enabled_apart one ok between step.0 n alone s.0 due.enabled other

  -- an occurrence where n is due
  from_due : (from : PlainMarking) (d : ℕ) (between : PlainMarking) (c : ℕ) (to : PlainMarking) (e : ℕ) (step : Occurrence) → IsSingle one between → c < data_count sizes → IsDue one two relation relation' n from d between c →
      after one between step ≡ Some to → relation step.1 c e → Reaches two relation' from d to e ⊎ IsDue one two relation relation' n from d to e
  from_due from d between c to e step alone below due h r = ⊎_elim
      (λ q. inl (due.follows step.1 to e (subst (λ k. after one between (k, step.1) ≡ Some to) q h) r))
      (λ q. inr (still_due from d between c to e step alone below due q h r))
      (cases_eq step.0 n)

  -- What the first reaches, the second reaches too, or n is due there.
  pub short_forward : ReachesForward one two relation relation' n sizes
  short_forward from d to e proper alone start below h =
      reached_by_last one relation from d (λ left c. Reaches two relation' from d left c ⊎ IsDue one two relation relation' n from d left c) (inl (Reaches-itself two relation' from d))
      (λ between c left b step way p k r. ⊎_elim
      (λ more. from_reached from d between c left b step (start_reached short from d between c start more) more k r)
      (λ due. from_due from d between c left b step (leaves-single one single from between way.steps proper.as_many alone way.leads) (Reaches-below one sizes relation local from d between c below way) due k r)
      p) to e h
