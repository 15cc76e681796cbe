-- The words behind the first of a list, taken one after the other.
use Rattle.std.proofs.Common.{◌≡◌, ◌∙◌, ℕ, zero, suc, ◌+◌, List, [], ◌∷◌, ◌++◌, length, take, drop, slice_get, Option, Some, None, IfSome, refl, sym, ap, arith}
use Rattle.std.proofs.lemmas.List.{length_push}
use Rattle.std.proofs.lemmas.Option.{same_Some}

-- One more is taken.
pub one_more : (n : ℕ) (xs : List (List ℕ)) (x : List ℕ) → Some x ≡ slice_get xs n → take n xs ++ x ∷ [] ≡ take (suc n) xs
one_more n [] x is = let never : Some x ≡ None = is in cc
one_more zero (y ∷ xs) x is = ap (λ z. z ∷ []) (same_Some x y is)
one_more (suc n) (y ∷ xs) x is = ap (λ rest. y ∷ rest) (one_more n xs x is)

-- Where no more is left, all are taken.
pub all_taken : (n : ℕ) (xs : List (List ℕ)) → None ≡ slice_get xs n → take n xs ≡ xs
all_taken zero [] is = refl
all_taken (suc n) [] is = refl
all_taken zero (y ∷ xs) is = cc
all_taken (suc n) (y ∷ xs) is = ap (λ rest. y ∷ rest) (all_taken n xs is)

-- The words behind the first, so many as there are, are taken in their order, and so is the next one.
pub next_taken : (told : Option (List (List ℕ))) (words slice words' : List (List ℕ)) (word : List ℕ) (answer : Option (List ℕ)) → IfSome told (λ all. words ≡ take (length words) (drop 1 all)) →
    IfSome told (λ all. answer ≡ slice_get all (length slice + 1)) → slice ≡ words → answer ≡ Some word → words' ≡ words ++ word ∷ [] → IfSome told (λ all. words' ≡ take (length words') (drop 1 all))
next_taken None words slice words' word answer before next same is more = tt
next_taken (Some []) words slice words' word answer before next same is more = let never : Some word ≡ None = sym is ∙ next in cc
next_taken (Some (first ∷ xs)) words slice words' word answer before next same is more =
    let place : length slice + 1 ≡ suc (length words) = omega (arith, ap length same) in
    let there : Some word ≡ slice_get xs (length words) = sym is ∙ (next ∙ ap (slice_get (first ∷ xs)) place) in
    let size : suc (length words) ≡ length words' = omega (arith, ap length more, length_push words word) in
    more ∙ (ap (λ w. w ++ word ∷ []) before ∙ (one_more (length words) xs word there ∙ ap (λ n. take n xs) size))

-- Where there is no next one, they are all.
pub none_left : (told : Option (List (List ℕ))) (words slice : List (List ℕ)) (answer : Option (List ℕ)) → IfSome told (λ all. words ≡ take (length words) (drop 1 all)) →
    IfSome told (λ all. answer ≡ slice_get all (length slice + 1)) → slice ≡ words → answer ≡ None → IfSome told (λ all. words ≡ drop 1 all)
none_left None words slice answer before next same is = tt
none_left (Some []) words slice answer before next same is = before ∙ all_taken (length words) [] refl
none_left (Some (first ∷ xs)) words slice answer before next same is =
    let place : length slice + 1 ≡ suc (length words) = omega (arith, ap length same) in
    before ∙ all_taken (length words) xs (sym is ∙ (next ∙ ap (slice_get (first ∷ xs)) place))
