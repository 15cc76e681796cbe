-- Runs that are followed entry by entry.
use Rattle.std.proofs.Common.{◌≡◌, ℕ, ◌+◌, ◌<◌, ◌≤◌, List, [], ◌∷◌, ◌++◌, length, take, drop, get_or, slice_get, Option, Some, None, IsSome, refl, sym, subst, ap, ◌∙◌}
use Rattle.std.proofs.lemmas.Option.{none-some, slice_get_within, slice_get-map, slice_get-get_or, get_or_from_slice_get}
use Rattle.std.specs.Option.{option_map}
use Rattle.std.proofs.lemmas.List.{take_more, take_all, take-append-drop, length-map}
use Rattle.nego_base.specs.declared.ids.AtomId.{AtomId}
use Rattle.nego_base.specs.declared.ids.OutcomeId.{OutcomeId}
use Rattle.nego_model.specs.Negotiation.{Negotiation}
use Rattle.nego_model.specs.Occurring.{PlainMarking, Occurrence, opening_marking, after, leaves, IsRun, IsComplete, final_marking}
use Rattle.nego_model.specs.Followed.{occurrences}
use Rattle.nego_model.proofs.occurrence.Steps.{leaves_through, leaves_one, leaves_between}

-- what the entries up to a place leave is what the entry there leaves after those before
pub follows_on : (nego : Negotiation) (run : List Occurrence) (i : ℕ) (step : Occurrence) (middle : PlainMarking) (left : Option PlainMarking) → slice_get run i ≡ Some step →
    leaves nego (opening_marking nego) (take i run) ≡ Some middle → after nego middle step ≡ left → leaves nego (opening_marking nego) (take (i + 1) run) ≡ left
follows_on nego run i step middle left at h k =
    ap (λ steps. leaves nego (opening_marking nego) steps) one_more
    ∙ (leaves_through nego (opening_marking nego) (take i run) (step ∷ []) middle h ∙ (leaves_one nego middle step ∙ k))
  where
    one_more : take (i + 1) run ≡ take i run ++ step ∷ []
    one_more = take_more run i step (slice_get_within run i step at) ∙ ap (λ x. take i run ++ x ∷ []) (get_or_from_slice_get run i step step at)

-- as many entries as there are
pub length-occurrences : (items run : List (AtomId × OutcomeId)) → items ≡ run → length (occurrences run) ≡ length items
length-occurrences items run e = length-map run (λ step. (step.0.0, step.1.0)) ∙ ap length (sym e)

-- the entry at a place, by its numbers
pub entry_at : (items run : List (AtomId × OutcomeId)) (i : ℕ) (d : AtomId × OutcomeId) → items ≡ run → i < length items → slice_get (occurrences run) i ≡ Some ((get_or items i d).0.0, (get_or items i d).1.0)
entry_at items run i d e h =
    ap (λ steps. slice_get (occurrences steps) i) (sym e)
    ∙ (slice_get-map see items i ∙ ap (option_map see) (slice_get-get_or items i d h))
  where
    see : AtomId × OutcomeId → Occurrence
    see step = (step.0.0, step.1.0)

-- where as many entries have occurred as there are, all have
pub all_occurred : (nego : Negotiation) (items run : List (AtomId × OutcomeId)) (i : ℕ) (left : PlainMarking) → items ≡ run → length items ≤ i →
    leaves nego (opening_marking nego) (take i (occurrences run)) ≡ Some left → leaves nego (opening_marking nego) (occurrences run) ≡ Some left
all_occurred nego items run i left e h k =
    subst (λ steps. leaves nego (opening_marking nego) steps ≡ Some left)
    (take_all i (occurrences run) (subst (λ n. n ≤ i) (sym (length-occurrences items run e)) h)) k

-- what leaves a marking is a run
pub IsRun_from_leaves : (nego : Negotiation) (run : List Occurrence) (left : PlainMarking) → leaves nego (opening_marking nego) run ≡ Some left → IsRun nego run
IsRun_from_leaves nego run left e = subst (λ o. IsSome o) (sym e) refl

-- what leaves no marking is no run
pub no_run : (nego : Negotiation) (run : List Occurrence) → leaves nego (opening_marking nego) run ≡ None → ¬ IsRun nego run
no_run nego run e h = none_is_some (subst (λ o. IsSome o) e h)
  where
    none_is_some : IsSome {T = PlainMarking} None → ⊥
    none_is_some q = cc

-- of a complete run the first entries are a run
pub not_complete : (nego : Negotiation) (run : List Occurrence) (n : ℕ) → leaves nego (opening_marking nego) (take n run) ≡ None → ¬ IsComplete nego run
not_complete nego run n e h =
    let whole : leaves nego (opening_marking nego) (take n run ++ drop n run) ≡ Some (final_marking nego) = subst (IsComplete nego) (sym (take-append-drop n run)) h in
    let k = leaves_between nego (opening_marking nego) (take n run) (drop n run) (final_marking nego) whole in
    none-some k.0 (sym e ∙ k.1)
