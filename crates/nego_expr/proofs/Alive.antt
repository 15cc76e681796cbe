-- Laws of the alive outcomes of a work: who is found by its number, and what is meant where it is found.
use Rattle.std.proofs.Common.{◌≡◌, ◌↔◌, ℕ, ◌+◌, ◌≤◌, ◌==◌, List, [], ◌∷◌, map, Some, option_map, MatchOption, refl, sym, subst, ◌∙◌, arith, eq-eqb, ne_eqb}
use Rattle.std.proofs.lemmas.Bool.{cond-true, cond-false}
use Rattle.std.proofs.lemmas.List.Elements.{All-nil, All-cons, All-weaker}
use Rattle.std.specs.List.{All}
use Rattle.nego_base.specs.Members.{RisesFrom, IsRising}
use Rattle.nego_model.specs.Joining.{RelationTest, By}
use Rattle.nego_model.specs.Expression.{Means}
use Rattle.nego_expr.specs.Work.{WorkOutcome, PlainWork, outcome_among, outcome_at, ByWork}

-- the first outcome is found by its number
pub outcome_among_first : (x : WorkOutcome) (xs : List WorkOutcome) → outcome_among (x ∷ xs) x.number ≡ Some x
outcome_among_first x xs = cond-true (x.number == x.number) (Some x) (outcome_among xs x.number) (eq-eqb x.number x.number refl)

-- by another number the outcomes behind the first are searched
pub outcome_among_later : (x : WorkOutcome) (xs : List WorkOutcome) (o : ℕ) → (x.number ≡ o → ⊥) → outcome_among (x ∷ xs) o ≡ outcome_among xs o
outcome_among_later x xs o h = cond-false (x.number == o) (Some x) (outcome_among xs o) (ne_eqb x.number o h)

-- where numbers rise from a low one, none is below it, and each outcome is found by its number
found_from : (low : ℕ) (outcomes : List WorkOutcome) → RisesFrom low (map (λ outcome. outcome.number) outcomes) →
    All (λ outcome. (low ≤ outcome.number) × (outcome_among outcomes outcome.number ≡ Some outcome)) outcomes
found_from low [] h = All-nil (λ outcome. (low ≤ outcome.number) × (outcome_among [] outcome.number ≡ Some outcome))
found_from low (x ∷ xs) h =
    All-cons (λ y. (low ≤ y.number) × (outcome_among (x ∷ xs) y.number ≡ Some y)) x xs (h.0, outcome_among_first x xs)
    (All-weaker (λ y. (x.number + 1 ≤ y.number) × (outcome_among xs y.number ≡ Some y)) (λ y. (low ≤ y.number) × (outcome_among (x ∷ xs) y.number ≡ Some y))
    (λ y k.
    let above : x.number + 1 ≤ y.number = k.0 in
    let from : low ≤ x.number = h.0 in
    (omega (arith, above, from), outcome_among_later x xs y.number (λ e. let no_more : ⊥ = omega (arith, above, e) in no_more) ∙ k.1))
    xs (found_from (x.number + 1) xs h.1))

-- where numbers rise, each outcome is found by its number
pub each_found : (outcomes : List WorkOutcome) → IsRising (map (λ outcome. outcome.number) outcomes) → All (λ outcome. outcome_among outcomes outcome.number ≡ Some outcome) outcomes
each_found outcomes h =
    All-weaker (λ x. (0 ≤ x.number) × (outcome_among outcomes x.number ≡ Some x)) (λ x. outcome_among outcomes x.number ≡ Some x) (λ x k. k.1) outcomes (found_from 0 outcomes h)

-- an outcome that is found relates what its node means
pub ByWork-found : (test : RelationTest) (work : PlainWork) (o : ℕ) (x : WorkOutcome) (d e : ℕ) → outcome_at work o ≡ Some x → ByWork test work o d e ↔ Means (By test) work.nodes x.node d e
ByWork-found test work o x d e h = (
  λ m. subst (λ found. MatchOption (option_map (λ outcome. outcome.node) found) ⊥ (λ node. Means (By test) work.nodes node d e)) h m,
  λ m. subst (λ found. MatchOption (option_map (λ outcome. outcome.node) found) ⊥ (λ node. Means (By test) work.nodes node d e)) (sym h) m,
)
