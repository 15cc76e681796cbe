-- The first of what items give.
use Rattle.std.specs.Prelude.{ℕ, ◌+◌, List, [], ◌∷◌, Option, None}
use Rattle.std.specs.Option.{option_or}

-- the first that an item gives
unfoldable pub first_among : {A B : Type 0} → (A → Option B) → List A → Option B
first_among f [] = None
first_among f (x ∷ xs) = option_or (f x) (first_among f xs)

-- the same, where the items are numbered from n on
unfoldable pub first_numbered : {A B : Type 0} → (ℕ → A → Option B) → ℕ → List A → Option B
first_numbered f n [] = None
first_numbered f n (x ∷ xs) = option_or (f n x) (first_numbered f (n + 1) xs)
