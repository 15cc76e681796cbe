-- Parties and outcomes of an atom by numbers that may be anything.
use Rattle.std.proofs.Common.{◌≡◌, ℕ, ◌<◌, ◌≤◌, ◌+◌, ◌==◌, Bool, true, false, [], length, IsTrue, refl, ap, sym, ◌∙◌, subst, arith, eqb-true, eq-eqb}
use Rattle.std.proofs.lemmas.Option.{same_Some, slice_get_past, slice_get_within}
use Rattle.std.specs.Option.{option_map_or}
use Rattle.nego_base.specs.Members.{is_in}
use Rattle.nego_base.proofs.BoolLaws.{same_tests}
use Rattle.nego_base.proofs.Members.{All-member}
use Rattle.nego_model.specs.Negotiation.{IsOutcome}
use Rattle.nego_model.specs.Diagram.{PlainDiagram, IsDiagram, negotiation_of, parties_of, outcomes_from}
use Rattle.nego_model.proofs.diagrams.Negotiations.{OutcomeAt, outcomes_from-at, outcome_at}
use Rattle.nego_model.proofs.diagrams.Readers.{parties-below}

-- not, from a contradiction
pub false_from : (b : Bool) → (b ≡ true → ⊥) → b ≡ false
false_from true h = absurd (h refl)
false_from false h = refl

-- what is no atom has no parties
pub is_in-parties_past : (diagram : PlainDiagram) (n p : ℕ) → length diagram.atoms ≤ n → is_in p (parties_of diagram n) ≡ false
is_in-parties_past diagram n p past = ap (λ o. is_in p (option_map_or (λ atom. atom.parties) o [])) (slice_get_past diagram.atoms n past)

-- who is no agent is no party
pub is_in-parties_stranger : (diagram : PlainDiagram) (n p : ℕ) → IsDiagram diagram → n < length diagram.atoms → length diagram.agents ≤ p → is_in p (parties_of diagram n) ≡ false
is_in-parties_stranger diagram n p ok atom past =
    false_from (is_in p (parties_of diagram n)) (λ h. let below : p < length diagram.agents = All-member (λ a. a < length diagram.agents) p (parties_of diagram n) (parties-below diagram ok n atom) h in omega (arith, below, past))

-- an atom's outcome is one of the diagram's
pub outcome-below : (diagram : PlainDiagram) (n o : ℕ) → is_in o (outcomes_from 0 diagram.outcomes n) ≡ true → o < length diagram.outcomes
outcome-below diagram n o h =
    let shown : IsTrue (is_in (0 + o) (outcomes_from 0 diagram.outcomes n)) = (let e : o ≡ 0 + o = omega arith in subst (λ x. IsTrue (is_in x (outcomes_from 0 diagram.outcomes n))) e h) in
    let at = outcomes_from-at 0 diagram.outcomes n o shown in
    slice_get_within diagram.outcomes o at.outcome at.at

-- what is no outcome is none of an atom's
pub is_in-outcomes_past : (diagram : PlainDiagram) (n o : ℕ) → length diagram.outcomes ≤ o → is_in o (outcomes_from 0 diagram.outcomes n) ≡ false
is_in-outcomes_past diagram n o past =
    false_from (is_in o (outcomes_from 0 diagram.outcomes n)) (λ h. let below = outcome-below diagram n o h in omega (arith, below, past))

-- an outcome of one atom is one of another's exactly where the atoms are equal
pub is_in-outcomes_own : (diagram : PlainDiagram) (m n o : ℕ) → IsOutcome (negotiation_of diagram) m o → is_in o (outcomes_from 0 diagram.outcomes n) ≡ (m == n)
is_in-outcomes_own diagram m n o own = same_tests (is_in o (outcomes_from 0 diagram.outcomes n)) (m == n) there back
  where
    own_at : OutcomeAt diagram.outcomes m o
    own_at = outcome_at diagram m o own

    shown : IsTrue (is_in o (outcomes_from 0 diagram.outcomes n)) → IsTrue (is_in (0 + o) (outcomes_from 0 diagram.outcomes n))
    shown h = let e : o ≡ 0 + o = omega arith in subst (λ x. IsTrue (is_in x (outcomes_from 0 diagram.outcomes n))) e h

    there : is_in o (outcomes_from 0 diagram.outcomes n) ≡ true → (m == n) ≡ true
    there h =
        let at = outcomes_from-at 0 diagram.outcomes n o (shown h) in
        eq-eqb m n (sym own_at.of_atom ∙ (ap (λ x. x.atom) (same_Some own_at.outcome at.outcome (sym own_at.at ∙ at.at)) ∙ at.of_atom))

    back : (m == n) ≡ true → is_in o (outcomes_from 0 diagram.outcomes n) ≡ true
    back h = subst (λ x. is_in o (outcomes_from 0 diagram.outcomes x) ≡ true) (eqb-true m n h) own.1
