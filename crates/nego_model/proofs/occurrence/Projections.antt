-- Laws of what one agent sees of a run.
use Rattle.std.proofs.Common.{◌≡◌, ℕ, ◌<◌, Bool, true, false, cond, List, [], ◌∷◌, ◌++◌, length, Some, refl, sym, subst, ap, ◌∙◌}
use Rattle.std.proofs.lemmas.Option.{same_Some}
use Rattle.std.proofs.lemmas.List.Elements.{filter-append}
use Rattle.std.proofs.lemmas.List.{length-replicate}
use Rattle.nego_base.specs.Members.{is_in}
use Rattle.nego_model.specs.Negotiation.{Negotiation}
use Rattle.nego_model.specs.Occurring.{PlainMarking, Occurrence, ready, leaves, opening_marking}
use Rattle.nego_model.specs.Joining.{Entry, steps_of}
use Rattle.nego_model.specs.Projection.{AreApart, projection, own_entries, ready_behind}
use Rattle.nego_model.proofs.occurrence.Markings.{ready-moved, ready-replicate, same_markings}
use Rattle.nego_model.proofs.occurrence.Steps.{after-some, length-after, leaves-first, length-run}

-- the projection of entries and then entries
pub projection-append : (nego : Negotiation) (a : ℕ) (front rest : List Occurrence) → projection nego a (front ++ rest) ≡ projection nego a front ++ projection nego a rest
projection-append nego a front rest = filter-append (λ step. is_in a (nego.parties step.0)) front rest

-- two first entries change places that an agent doesn't both see
first_two : (b c : Bool) (step step' : Occurrence) (rest : List Occurrence) → (b ≡ true → c ≡ true → ⊥) →
    cond b (step ∷ cond c (step' ∷ rest) rest) (cond c (step' ∷ rest) rest) ≡ cond c (step' ∷ cond b (step ∷ rest) rest) (cond b (step ∷ rest) rest)
first_two true true step step' rest h = absurd (h refl refl)
first_two true false step step' rest h = refl
first_two false true step step' rest h = refl
first_two false false step step' rest h = refl

-- two neighbours without a common party change places, and each agent sees the same
pub projection_keeps : (nego : Negotiation) (front rest : List Occurrence) (step step' : Occurrence) (a : ℕ) → AreApart (nego.parties step.0) (nego.parties step'.0) →
    projection nego a (front ++ step ∷ step' ∷ rest) ≡ projection nego a (front ++ step' ∷ step ∷ rest)
projection_keeps nego front rest step step' a apart =
    projection-append nego a front (step ∷ step' ∷ rest)
    ∙ (ap (λ seen. projection nego a front ++ seen) (first_two (is_in a (nego.parties step.0)) (is_in a (nego.parties step'.0)) step step' (projection nego a rest) (apart a))
    ∙ sym (projection-append nego a front (step' ∷ step ∷ rest)))

-- what an agent is ready for follows from what it was ready for and what it sees
pub ready-leaves : (nego : Negotiation) (steps : List Occurrence) (marking left : PlainMarking) (a : ℕ) → a < length marking → leaves nego marking steps ≡ Some left →
    ready left a ≡ ready_behind nego a (ready marking a) (projection nego a steps)
ready-leaves nego [] marking left a below e = ap (λ m. ready m a) (sym (same_Some marking left e))
ready-leaves nego (step ∷ steps) marking left a below e =
    let h = leaves-first nego marking step steps left e in
    let p = after-some nego marking step h.0 h.1 in
    let there : a < length h.0 = subst (λ n. a < n) (sym (length-after nego marking step h.0 h.1)) below in
    let here : ready h.0 a ≡ cond (is_in a (nego.parties step.0)) (nego.next step.1 a) (ready marking a) =
    ap (λ m. ready m a) (sym p.2) ∙ ready-moved (nego.parties step.0) (nego.next step.1) marking a below in
    ready-leaves nego steps h.0 left a there h.2
    ∙ (ap (λ xs. ready_behind nego a xs (projection nego a steps)) here ∙ one_more (is_in a (nego.parties step.0)) (ready marking a) (projection nego a steps))
  where
    one_more : (b : Bool) (was : List ℕ) (seen : List Occurrence) → ready_behind nego a (cond b (nego.next step.1 a) was) seen ≡ ready_behind nego a was (cond b (step ∷ seen) seen)
    one_more true was seen = refl
    one_more false was seen = refl

-- what an agent is ready for after a run follows from what it sees of the run
pub ready-run : (nego : Negotiation) (run : List Occurrence) (left : PlainMarking) (a : ℕ) → a < nego.agents → leaves nego (opening_marking nego) run ≡ Some left →
    ready left a ≡ ready_behind nego a (nego.first ∷ []) (projection nego a run)
ready-run nego run left a below e =
    ready-leaves nego run (opening_marking nego) left a (subst (λ n. a < n) (sym (length-replicate nego.agents (nego.first ∷ []))) below) e
    ∙ ap (λ here. ready_behind nego a here (projection nego a run)) (ready-replicate nego.agents a (nego.first ∷ []) below)

-- two runs of which each agent sees the same leave the same marking
pub same_seen : (nego : Negotiation) (one two : List Occurrence) (left left' : PlainMarking) → leaves nego (opening_marking nego) one ≡ Some left → leaves nego (opening_marking nego) two ≡ Some left' →
    ((a : ℕ) → a < nego.agents → projection nego a one ≡ projection nego a two) → left ≡ left'
same_seen nego one two left left' h k same =
    same_markings left left' (length-run nego one left h ∙ sym (length-run nego two left' k)) (λ a l.
    let below : a < nego.agents = subst (λ n. a < n) (length-run nego one left h) l in
    ready-run nego one left a below h ∙ (ap (λ seen. ready_behind nego a (nego.first ∷ []) seen) (same a below) ∙ sym (ready-run nego two left' a below k)))

-- the occurrences of an agent's own entries are the projection of the run
pub own_entries-steps : (nego : Negotiation) (a : ℕ) (history : List Entry) → steps_of (own_entries nego a history) ≡ projection nego a (steps_of history)
own_entries-steps nego a [] = refl
own_entries-steps nego a (entry ∷ history) = chosen (is_in a (nego.parties entry.step.0)) ∙ ap (λ seen. cond (is_in a (nego.parties entry.step.0)) (entry.step ∷ seen) seen) (own_entries-steps nego a history)
  where
    chosen : (b : Bool) → steps_of (cond b (entry ∷ own_entries nego a history) (own_entries nego a history)) ≡ cond b (entry.step ∷ steps_of (own_entries nego a history)) (steps_of (own_entries nego a history))
    chosen true = refl
    chosen false = refl
