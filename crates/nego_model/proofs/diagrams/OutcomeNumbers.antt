-- The numbers of an atom's outcomes in a list of outcomes.
use Rattle.std.proofs.Common.{◌≡◌, ◌≢◌, ℕ, ◌+◌, ◌==◌, cond, true, false, List, [], ◌∷◌, ◌++◌, length, refl, ap, ◌∙◌, arith, eq-eqb}
use Rattle.std.proofs.lemmas.Bool.Decides.{nat_tests}
use Rattle.std.proofs.lemmas.List.Elements.{All-head, All-tail}
use Rattle.std.specs.List.{All, range_with_len}
use Rattle.nego_model.specs.Diagram.{PlainOutcome, outcomes_from}

-- those among two lists are those among the one, and then those among the other
pub outcomes_from-append : (k : ℕ) (xs ys : List PlainOutcome) (n : ℕ) → outcomes_from k (xs ++ ys) n ≡ outcomes_from k xs n ++ outcomes_from (k + length xs) ys n
outcomes_from-append k [] ys n = let e : k ≡ k + 0 = omega arith in ap (λ j. outcomes_from j ys n) e
outcomes_from-append k (x ∷ xs) ys n =
    let next : k + 1 + length xs ≡ k + length (x ∷ xs) = omega arith in
    let later : outcomes_from (k + 1) (xs ++ ys) n ≡ outcomes_from (k + 1) xs n ++ outcomes_from (k + length (x ∷ xs)) ys n =
    outcomes_from-append (k + 1) xs ys n ∙ ap (λ j. outcomes_from (k + 1) xs n ++ outcomes_from j ys n) next in
    elim (x.atom == n) as (λ b. cond b (k ∷ outcomes_from (k + 1) (xs ++ ys) n) (outcomes_from (k + 1) (xs ++ ys) n) ≡ cond b (k ∷ outcomes_from (k + 1) xs n) (outcomes_from (k + 1) xs n) ++ outcomes_from (k + length (x ∷ xs)) ys n)
    [ true ↦ ap (λ os. k ∷ os) later | false ↦ later ]

-- where all are of the atom, they are as many numbers in a row
pub outcomes_from-all : (k : ℕ) (xs : List PlainOutcome) (n : ℕ) → All (λ x. x.atom ≡ n) xs → outcomes_from k xs n ≡ range_with_len k (length xs)
outcomes_from-all k [] n h = refl
outcomes_from-all k (x ∷ xs) n h =
    let here : (x.atom == n) ≡ true = eq-eqb x.atom n (All-head (λ y. y.atom ≡ n) x xs h) in
    ap (λ b. cond b (k ∷ outcomes_from (k + 1) xs n) (outcomes_from (k + 1) xs n)) here
    ∙ ap (λ os. k ∷ os) (outcomes_from-all (k + 1) xs n (All-tail (λ y. y.atom ≡ n) x xs h))

-- where none is of the atom, there is no number
pub outcomes_from-none : (k : ℕ) (xs : List PlainOutcome) (n : ℕ) → All (λ x. x.atom ≢ n) xs → outcomes_from k xs n ≡ []
outcomes_from-none k [] n h = refl
outcomes_from-none k (x ∷ xs) n h =
    let other : x.atom ≢ n = All-head (λ y. y.atom ≢ n) x xs h in
    let here : (x.atom == n) ≡ false = grind (arith, nat_tests) in
    ap (λ b. cond b (k ∷ outcomes_from (k + 1) xs n) (outcomes_from (k + 1) xs n)) here
    ∙ outcomes_from-none (k + 1) xs n (All-tail (λ y. y.atom ≢ n) x xs h)
