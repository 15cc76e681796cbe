-- Laws of occurrences, one after another.
use Rattle.std.proofs.Common.{◌≡◌, ◌&&◌, List, [], ◌∷◌, ◌++◌, length, Option, Some, None, option_and_then, IsSome, IsTrue, refl, sym, ap, ◌∙◌}
use Rattle.std.proofs.lemmas.Bool.{and_parts, and_from, cond-true}
use Rattle.std.proofs.lemmas.Option.{same_Some, cond_some, option_and_then_some}
use Rattle.std.proofs.lemmas.List.{length-replicate}
use Rattle.nego_base.specs.Members.{is_in}
use Rattle.nego_model.specs.Negotiation.{Negotiation, IsOutcome}
use Rattle.nego_model.specs.Occurring.{PlainMarking, Occurrence, moved, enables, after, leaves, opening_marking}
use Rattle.nego_model.proofs.occurrence.Markings.{length-moved, enables-atom}

-- What an occurrence that leaves a marking shows: its atom is enabled, its outcome is one of the atom's, and its
-- parties have moved.
pub after-some : (nego : Negotiation) (marking : PlainMarking) (step : Occurrence) (left : PlainMarking) → after nego marking step ≡ Some left →
    IsTrue (enables nego marking step.0) × IsTrue (is_in step.1 (nego.outcomes step.0)) × (moved 0 (nego.parties step.0) (nego.next step.1) marking ≡ left)
after-some nego marking step left e =
    let h = cond_some (enables nego marking step.0 && is_in step.1 (nego.outcomes step.0)) (moved 0 (nego.parties step.0) (nego.next step.1) marking) left e in
    let p = and_parts (enables nego marking step.0) (is_in step.1 (nego.outcomes step.0)) h.0 in
    (p.0, p.1, h.1)

-- an occurrence that leaves a marking is of an atom with one of its outcomes
pub after-outcome : (nego : Negotiation) (marking : PlainMarking) (step : Occurrence) (left : PlainMarking) → after nego marking step ≡ Some left → IsOutcome nego step.0 step.1
after-outcome nego marking step left e =
    let h = after-some nego marking step left e in
    (enables-atom nego marking step.0 h.0, h.1)

-- what an occurrence leaves
pub after_from : (nego : Negotiation) (marking : PlainMarking) (step : Occurrence) → IsTrue (enables nego marking step.0) → IsTrue (is_in step.1 (nego.outcomes step.0)) →
    after nego marking step ≡ Some (moved 0 (nego.parties step.0) (nego.next step.1) marking)
after_from nego marking step h k =
    cond-true (enables nego marking step.0 && is_in step.1 (nego.outcomes step.0)) (Some (moved 0 (nego.parties step.0) (nego.next step.1) marking)) None
    (and_from (enables nego marking step.0) (is_in step.1 (nego.outcomes step.0)) h k)

-- an occurrence leaves as many agents as there were
pub length-after : (nego : Negotiation) (marking : PlainMarking) (step : Occurrence) (left : PlainMarking) → after nego marking step ≡ Some left → length left ≡ length marking
length-after nego marking step left e =
    let h = after-some nego marking step left e in
    ap length (sym h.2) ∙ length-moved 0 (nego.parties step.0) (nego.next step.1) marking

-- what steps leave that begin with one
pub leaves-first : (nego : Negotiation) (marking : PlainMarking) (step : Occurrence) (steps : List Occurrence) (left : PlainMarking) → leaves nego marking (step ∷ steps) ≡ Some left →
    (middle : PlainMarking) × (after nego marking step ≡ Some middle) × (leaves nego middle steps ≡ Some left)
leaves-first nego marking step steps left e =
    option_and_then_some {P = (middle : PlainMarking) × (after nego marking step ≡ Some middle) × (leaves nego middle steps ≡ Some left)}
    (λ next. leaves nego next steps) (after nego marking step) left e (λ middle p q. (middle, p, q))

-- what an occurrence and then steps leave
pub leaves_from_first : (nego : Negotiation) (marking : PlainMarking) (step : Occurrence) (steps : List Occurrence) (middle : PlainMarking) → after nego marking step ≡ Some middle →
    leaves nego marking (step ∷ steps) ≡ leaves nego middle steps
leaves_from_first nego marking step steps middle e = ap (option_and_then (λ next. leaves nego next steps)) e

-- steps and then steps leave what the second leave after the first
pub leaves-append : (nego : Negotiation) (marking : PlainMarking) (front rest : List Occurrence) →
    leaves nego marking (front ++ rest) ≡ option_and_then (λ middle. leaves nego middle rest) (leaves nego marking front)
leaves-append nego marking [] rest = refl
leaves-append nego marking (step ∷ steps) rest = go (λ next. leaves-append nego next steps rest) (after nego marking step)
  where
    go : ((next : PlainMarking) → leaves nego next (steps ++ rest) ≡ option_and_then (λ middle. leaves nego middle rest) (leaves nego next steps)) → (o : Option PlainMarking) →
        option_and_then (λ next. leaves nego next (steps ++ rest)) o ≡ option_and_then (λ middle. leaves nego middle rest) (option_and_then (λ next. leaves nego next steps) o)
    go h None = refl
    go h (Some next) = h next

-- the marking between steps and steps
pub leaves_between : (nego : Negotiation) (marking : PlainMarking) (front rest : List Occurrence) (left : PlainMarking) → leaves nego marking (front ++ rest) ≡ Some left →
    (middle : PlainMarking) × (leaves nego marking front ≡ Some middle) × (leaves nego middle rest ≡ Some left)
leaves_between nego marking front rest left e =
    option_and_then_some {P = (middle : PlainMarking) × (leaves nego marking front ≡ Some middle) × (leaves nego middle rest ≡ Some left)}
    (λ middle. leaves nego middle rest) (leaves nego marking front) left (sym (leaves-append nego marking front rest) ∙ e) (λ middle p q. (middle, p, q))

-- steps to a marking, and steps from there
pub leaves_through : (nego : Negotiation) (marking : PlainMarking) (front rest : List Occurrence) (middle : PlainMarking) → leaves nego marking front ≡ Some middle →
    leaves nego marking (front ++ rest) ≡ leaves nego middle rest
leaves_through nego marking front rest middle e =
    leaves-append nego marking front rest ∙ ap (option_and_then (λ next. leaves nego next rest)) e

-- one occurrence leaves what it leaves
pub leaves_one : (nego : Negotiation) (marking : PlainMarking) (step : Occurrence) → leaves nego marking (step ∷ []) ≡ after nego marking step
leaves_one nego marking step = go (after nego marking step)
  where
    go : (o : Option PlainMarking) → option_and_then (λ next. Some next) o ≡ o
    go None = refl
    go (Some next) = refl

-- the marking before the last occurrence
pub leaves_before : (nego : Negotiation) (marking : PlainMarking) (front : List Occurrence) (step : Occurrence) (left : PlainMarking) → leaves nego marking (front ++ step ∷ []) ≡ Some left →
    (middle : PlainMarking) × (leaves nego marking front ≡ Some middle) × (after nego middle step ≡ Some left)
leaves_before nego marking front step left e =
    let h = leaves_between nego marking front (step ∷ []) left e in
    (h.0, h.1, sym (leaves_one nego h.0 step) ∙ h.2)

-- steps to a marking, and one occurrence
pub leaves_then : (nego : Negotiation) (marking : PlainMarking) (front : List Occurrence) (step : Occurrence) (middle left : PlainMarking) → leaves nego marking front ≡ Some middle → after nego middle step ≡ Some left →
    leaves nego marking (front ++ step ∷ []) ≡ Some left
leaves_then nego marking front step middle left e k = leaves_through nego marking front (step ∷ []) middle e ∙ (leaves_one nego middle step ∙ k)

-- steps leave as many agents as there were
pub length-leaves : (nego : Negotiation) (marking : PlainMarking) (steps : List Occurrence) (left : PlainMarking) → leaves nego marking steps ≡ Some left → length left ≡ length marking
length-leaves nego marking [] left e = ap length (sym (same_Some marking left e))
length-leaves nego marking (step ∷ steps) left e =
    let h = leaves-first nego marking step steps left e in
    length-leaves nego h.0 steps left h.2 ∙ length-after nego marking step h.0 h.1

-- a run leaves a list for each agent
pub length-run : (nego : Negotiation) (run : List Occurrence) (left : PlainMarking) → leaves nego (opening_marking nego) run ≡ Some left → length left ≡ nego.agents
length-run nego run left e = length-leaves nego (opening_marking nego) run left e ∙ length-replicate nego.agents (nego.first ∷ [])

-- the marking that a run leaves
pub run_leaves : (nego : Negotiation) (marking : PlainMarking) (run : List Occurrence) → IsSome (leaves nego marking run) → (left : PlainMarking) × (leaves nego marking run ≡ Some left)
run_leaves nego marking run h = go (leaves nego marking run) refl h
  where
    go : (o : Option PlainMarking) → leaves nego marking run ≡ o → IsSome o → (left : PlainMarking) × (leaves nego marking run ≡ Some left)
    go None e k = absurd (none_is_some k)
      where
        none_is_some : IsSome {T = PlainMarking} None → ⊥
        none_is_some q = cc
    go (Some left) e k = (left, e)
