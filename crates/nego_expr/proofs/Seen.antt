-- How lists of the program's values are seen, item by item.
use Rattle.std.proofs.Common.{◌≡◌, ◌∙◌, Bool, ◌||◌, ℕ, ◌+◌, ◌<◌, List, [], ◌∷◌, ◌++◌, length, map, take, get_or, ap, refl}
use Rattle.std.specs.List.{list_any}
use Rattle.std.proofs.lemmas.List.{take_more, map-append}

-- an item passes a test where it is seen as one that does
pub any-map : {A B : Type 0} (f : A → B) (test : B → Bool) (xs : List A) → list_any (λ x. test (f x)) xs ≡ list_any test (map f xs)
any-map f test [] = refl
any-map f test (x ∷ xs) = ap (λ b. test (f x) || b) (any-map f test xs)

-- one item more of those so far, each seen
pub map-take_more : {A B : Type 0} (f : A → B) (xs : List A) (i : ℕ) (d x : A) → i < length xs → get_or xs i d ≡ x → map f (take (i + 1) xs) ≡ map f (take i xs) ++ f x ∷ []
map-take_more f xs i d x within read =
    ap (map f) (take_more xs i d within) ∙ map-append f (take i xs) (get_or xs i d ∷ []) ∙ ap (λ y. map f (take i xs) ++ f y ∷ []) read
