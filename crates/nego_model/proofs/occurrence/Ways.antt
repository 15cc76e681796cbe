-- Complete runs as ways to everyone at the last atom, and soundness as what leads where.
use Rattle.std.proofs.Common.{◌≡◌, ℕ, ◌<◌, List, [], ◌∷◌, ◌++◌, length, Some, IsSome, IsTrue, refl, sym, subst, ap, ◌∙◌}
use Rattle.std.proofs.lemmas.List.{length-replicate, same_from_push}
use Rattle.nego_base.specs.Members.{is_in}
use Rattle.nego_model.specs.Negotiation.{Negotiation, IsNegotiation, IsDeterministic, IsOutcome}
use Rattle.nego_model.specs.Occurring.{PlainMarking, Occurrence, ready, moved, enables, after, leaves, opening_marking, final_marking, IsComplete, IsSound, CanOccur}
use Rattle.nego_model.specs.Joining.{Relation, Joins, EndsWith, Runs}
use Rattle.nego_model.specs.Reaching.{all_at_last, EndsAtLast}
use Rattle.nego_base.proofs.Members.{is_in-head}
use Rattle.nego_model.proofs.occurrence.Markings.{length-moved, ready-moved_party, ready-replicate, same_for_all, enables_from, enables-party}
use Rattle.nego_model.proofs.occurrence.Steps.{after-some, after-outcome, after_from, leaves_before, leaves_then, leaves_through, run_leaves}
use Rattle.nego_model.proofs.occurrence.Joined.{Joins_then, joins_before}
use Rattle.nego_model.proofs.occurrence.CompleteRuns.{ends_with_the_last_atom}
use Rattle.nego_model.proofs.occurrence.Reached.{Leads}
use Rattle.nego_model.proofs.occurrence.Proper.{IsProper, IsSingle, opening-proper, opening-single, leaves-proper, leaves-single, ready_alone}

-- who is ready for one atom at most, and in a marking that enables the last atom, is ready for it alone
pub all_at_last-from_enabled : (nego : Negotiation) → IsNegotiation nego → (marking : PlainMarking) → IsProper nego marking → IsSingle nego marking → IsTrue (enables nego marking nego.last) → marking ≡ all_at_last nego
all_at_last-from_enabled nego ok marking proper single h =
    same_for_all nego.agents (nego.last ∷ []) marking proper.as_many
    (λ a k. ready_alone nego marking a nego.last proper single k (enables-party nego marking nego.last a h (ok.all_end a k)))

-- everyone at the last atom enables it
pub all_at_last-enables : (nego : Negotiation) → IsNegotiation nego → IsTrue (enables nego (all_at_last nego) nego.last)
all_at_last-enables nego ok =
    enables_from nego (all_at_last nego) nego.last ok.last_there (λ a h.
    subst (λ xs. IsTrue (is_in nego.last xs)) (sym (ready-replicate nego.agents a (nego.last ∷ []) (ok.party_below nego.last a ok.last_there h))) (is_in-head nego.last []))

-- behind everyone at the last atom each outcome of it leaves the final marking
pub after_all_at_last : (nego : Negotiation) → IsNegotiation nego → (f : ℕ) → IsOutcome nego nego.last f → after nego (all_at_last nego) (nego.last, f) ≡ Some (final_marking nego)
after_all_at_last nego ok f outcome =
    after_from nego (all_at_last nego) (nego.last, f) (all_at_last-enables nego ok) outcome.1
    ∙ ap (λ m. Some m) (same_for_all nego.agents [] (moved 0 (nego.parties nego.last) (nego.next f) (all_at_last nego)) as_many none)
  where
    here : length (all_at_last nego) ≡ nego.agents
    here = length-replicate nego.agents (nego.last ∷ [])

    as_many : length (moved 0 (nego.parties nego.last) (nego.next f) (all_at_last nego)) ≡ nego.agents
    as_many = length-moved 0 (nego.parties nego.last) (nego.next f) (all_at_last nego) ∙ here

    none : (a : ℕ) → a < nego.agents → ready (moved 0 (nego.parties nego.last) (nego.next f) (all_at_last nego)) a ≡ []
    none a h = ready-moved_party (nego.parties nego.last) (nego.next f) (all_at_last nego) a (subst (λ n. a < n) (sym here) h) (ok.all_end a h) ∙ ok.last_ends f a outcome

-- A complete run is a way to everyone at the last atom, and one outcome of it.
pub runs_pass_all_at_last : (nego : Negotiation) (relation : Relation) (f d e : ℕ) → IsNegotiation nego → IsDeterministic nego → Runs nego relation f d e →
    EndsAtLast nego relation f d e
runs_pass_all_at_last nego relation f d e ok one h = record {
  before = j.0;
  way = record { steps = front; leads = subst (λ m. leaves nego (opening_marking nego) front ≡ Some m) everyone k.1; joins = j.1 };
  last = j.2;
  outcome = outcome;
}
  where
    end : (o : ℕ) × EndsWith h.run (nego.last, o)
    end = ends_with_the_last_atom nego h.run ok h.complete

    front : List Occurrence
    front = h.ends.1.0

    same_end : (end.1.0 ≡ front) × ◌≡◌ {A = Occurrence} (nego.last, end.0) (h.ends.0, f)
    same_end = same_from_push end.1.0 front (nego.last, end.0) (h.ends.0, f) (sym end.1.1 ∙ h.ends.1.1)

    is : h.run ≡ front ++ (nego.last, f) ∷ []
    is = h.ends.1.1 ∙ ap (λ n. front ++ (n, f) ∷ []) (sym (ap (λ step. step.0) same_end.1))

    k : (middle : PlainMarking) × (leaves nego (opening_marking nego) front ≡ Some middle) × (after nego middle (nego.last, f) ≡ Some (final_marking nego))
    k = leaves_before nego (opening_marking nego) front (nego.last, f) (final_marking nego) (subst (IsComplete nego) is h.complete)

    outcome : IsOutcome nego nego.last f
    outcome = after-outcome nego k.0 (nego.last, f) (final_marking nego) k.2

    everyone : k.0 ≡ all_at_last nego
    everyone = all_at_last-from_enabled nego ok k.0 (leaves-proper nego ok (opening_marking nego) k.0 front (opening-proper nego ok) k.1)
        (leaves-single nego one (opening_marking nego) k.0 front (length-replicate nego.agents (nego.first ∷ [])) (opening-single nego) k.1)
        (after-some nego k.0 (nego.last, f) (final_marking nego) k.2).0

    j : (c : ℕ) × Joins relation front d c × relation f c e
    j = joins_before relation front (nego.last, f) d e (subst (λ run. Joins relation run d e) is h.joins)

-- A way to everyone at the last atom and one outcome of it are a complete run.
pub Runs-from_all_at_last : (nego : Negotiation) (relation : Relation) (f d e : ℕ) → IsNegotiation nego → EndsAtLast nego relation f d e → Runs nego relation f d e
Runs-from_all_at_last nego relation f d e ok h = record {
  run = h.way.steps ++ (nego.last, f) ∷ [];
  complete = leaves_then nego (opening_marking nego) h.way.steps (nego.last, f) (all_at_last nego) (final_marking nego) h.way.leads (after_all_at_last nego ok f h.outcome);
  ends = (nego.last, (h.way.steps, refl));
  joins = Joins_then relation h.way.steps (nego.last, f) d h.before e h.way.joins h.last;
}

-- an atom can occur where the opening marking leads to one that enables it
pub CanOccur_from_leads : (nego : Negotiation) (n : ℕ) (marking : PlainMarking) → Leads nego (opening_marking nego) marking → IsTrue (enables nego marking n) → CanOccur nego n
CanOccur_from_leads nego n marking h k = record { run = h.steps; marking = marking; leads = h.leads; enabled = k }

-- where a sound negotiation leads, the final marking is led to
pub sound_leads : (nego : Negotiation) → IsSound nego → (marking : PlainMarking) → Leads nego (opening_marking nego) marking → Leads nego marking (final_marking nego)
sound_leads nego sound marking h =
    let k = sound.completes h.steps (subst IsSome (sym h.leads) refl) in
    record { steps = k.0; leads = sym (leaves_through nego (opening_marking nego) h.steps k.0 marking h.leads) ∙ k.1 }

-- A negotiation is sound where each atom is enabled in a marking that the opening one leads to, and each such marking
-- leads to the final one.
pub Sound_from_leads : (nego : Negotiation) →
    ((n : ℕ) → IsTrue (is_in n nego.atoms) → (marking : PlainMarking) × Leads nego (opening_marking nego) marking × IsTrue (enables nego marking n)) →
    ((marking : PlainMarking) → Leads nego (opening_marking nego) marking → Leads nego marking (final_marking nego)) → IsSound nego
Sound_from_leads nego alive completes = record {
  alive = λ n h. let k = alive n h in CanOccur_from_leads nego n k.0 k.1 k.2;
  completes = λ run h.
      let m = run_leaves nego (opening_marking nego) run h in
      let k = completes m.0 (record { steps = run; leads = m.1 }) in
      (k.steps, leaves_through nego (opening_marking nego) run k.steps m.0 m.1 ∙ k.leads);
}
