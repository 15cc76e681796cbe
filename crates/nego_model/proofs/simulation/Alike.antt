-- Negotiations that differ in nothing that occurrences look at have the same runs.
use Rattle.std.proofs.Common.{◌≡◌, ⊎_elim, ℕ, ◌<◌, List, length, Some, IsTrue, sym, subst, ap, ◌∙◌}
use Rattle.nego_base.specs.Members.{is_in}
use Rattle.nego_model.specs.Negotiation.{Negotiation, IsOutcome}
use Rattle.nego_model.specs.Occurring.{PlainMarking, Occurrence, ready, moved, enables, after}
use Rattle.nego_model.proofs.occurrence.Markings.{length-moved, ready-moved_party, ready-moved_other, same_markings, enables-atom, enables-party, enables_from}
use Rattle.nego_model.proofs.occurrence.Steps.{after-some, after-outcome, after_from}
use Rattle.nego_base.proofs.Members.{in_or_not}

-- The two have the same agents, atoms, parties, outcomes, first and last atom, and the same next atoms of parties.
pub record AreAlike (one two : Negotiation) : Type 0 where
  pub agents : one.agents ≡ two.agents
  pub first : one.first ≡ two.first
  pub last : one.last ≡ two.last
  pub atoms : (n : ℕ) → is_in n one.atoms ≡ is_in n two.atoms
  pub parties : (n : ℕ) → IsTrue (is_in n one.atoms) → one.parties n ≡ two.parties n
  pub outcomes : (n o : ℕ) → IsTrue (is_in n one.atoms) → is_in o (one.outcomes n) ≡ is_in o (two.outcomes n)
  pub next : (n o a : ℕ) → IsOutcome one n o → IsTrue (is_in a (one.parties n)) → one.next o a ≡ two.next o a

-- moves with the same next atoms of the parties leave the same
pub moved-same : (parties : List ℕ) (next next' : ℕ → List ℕ) (marking : PlainMarking) → ((a : ℕ) → IsTrue (is_in a parties) → next a ≡ next' a) → moved 0 parties next marking ≡ moved 0 parties next' marking
moved-same parties next next' marking h =
    same_markings (moved 0 parties next marking) (moved 0 parties next' marking) (length-moved 0 parties next marking ∙ sym (length-moved 0 parties next' marking))
    (λ a l. each a (subst (λ n. a < n) (length-moved 0 parties next marking) l))
  where
    each : (a : ℕ) → a < length marking → ready (moved 0 parties next marking) a ≡ ready (moved 0 parties next' marking) a
    each a l = ⊎_elim
        (λ p. ready-moved_party parties next marking a l p ∙ (h a p ∙ sym (ready-moved_party parties next' marking a l p)))
        (λ other. ready-moved_other parties next marking a l other ∙ sym (ready-moved_other parties next' marking a l other))
        (in_or_not a parties)

-- the second is as like the first
pub AreAlike-turned : (one two : Negotiation) → AreAlike one two → AreAlike two one
AreAlike-turned one two h = record {
  agents = sym h.agents;
  first = sym h.first;
  last = sym h.last;
  atoms = λ n. sym (h.atoms n);
  parties = λ n k. sym (h.parties n (h.atoms n ∙ k));
  outcomes = λ n o k. sym (h.outcomes n o (h.atoms n ∙ k));
  next = λ n o a k p. let there = h.atoms n ∙ k.0 in sym (h.next n o a (there, h.outcomes n o there ∙ k.1) (subst (λ xs. IsTrue (is_in a xs)) (sym (h.parties n there)) p));
}

module _ (one two : Negotiation) (alike : AreAlike one two) where
  -- an outcome of the one is an outcome of the other
  pub IsOutcome-alike : (n o : ℕ) → IsOutcome one n o → IsOutcome two n o
  IsOutcome-alike n o h = (sym (alike.atoms n) ∙ h.0, sym (alike.outcomes n o h.0) ∙ h.1)

  -- what the one enables the other enables
  pub enables-alike : (marking : PlainMarking) (n : ℕ) → IsTrue (enables one marking n) → IsTrue (enables two marking n)
  enables-alike marking n h =
      let there = enables-atom one marking n h in
      enables_from two marking n (sym (alike.atoms n) ∙ there) (λ a p. enables-party one marking n a h (subst (λ xs. IsTrue (is_in a xs)) (sym (alike.parties n there)) p))

  -- what an occurrence leaves in the one it leaves in the other
  pub after-alike : (marking left : PlainMarking) (step : Occurrence) → after one marking step ≡ Some left → after two marking step ≡ Some left
  after-alike marking left step e =
      let h = after-some one marking step left e in
      let outcome = after-outcome one marking step left e in
      after_from two marking step (enables-alike marking step.0 h.0) (IsOutcome-alike step.0 step.1 outcome).1
      ∙ ap (λ m. Some m) (subst (λ ps. moved 0 ps (two.next step.1) marking ≡ moved 0 (one.parties step.0) (one.next step.1) marking) (alike.parties step.0 outcome.0)
      (sym (moved-same (one.parties step.0) (one.next step.1) (two.next step.1) marking (λ a p. alike.next step.0 step.1 a outcome p))) ∙ h.2)
