-- Lists of numbers as sets: membership, and the rising lists that sets are seen as.
use Rattle.std.specs.Prelude.{ℕ, ◌+◌, ◌<◌, ◌≤◌, Bool, not, ◌==◌, nat_lt, if◌then◌else◌, List, [], ◌∷◌, All}
use Rattle.std.specs.List.{list_any, list_all, filter}

-- whether the number stands in the list
abbrev pub is_in : ℕ → List ℕ → Bool
is_in x xs = list_any (λ y. y == x) xs

-- whether each number of the one stands in the other
abbrev pub all_in : List ℕ → List ℕ → Bool
all_in xs ys = list_all (λ x. is_in x ys) xs

-- whether some number of the one stands in the other
abbrev pub any_in : List ℕ → List ℕ → Bool
any_in xs ys = list_any (λ x. is_in x ys) xs

-- the rising list with the number in its place
abbrev pub with_member : ℕ → List ℕ → List ℕ
with_member x [] = x ∷ []
with_member x (y ∷ ys) = if nat_lt x y then x ∷ y ∷ ys else (if x == y then y ∷ ys else y ∷ with_member x ys)

-- the list without the number
abbrev pub without_member : ℕ → List ℕ → List ℕ
without_member x xs = filter (λ y. not (y == x)) xs

-- the numbers of both, each of the one in its place in the other
abbrev pub united : List ℕ → List ℕ → List ℕ
united [] ys = ys
united (x ∷ xs) ys = with_member x (united xs ys)

-- the numbers of the one that aren't in the other
abbrev pub difference : List ℕ → List ℕ → List ℕ
difference xs ys = filter (λ x. not (is_in x ys)) xs

-- the first number is at least the low one, and each is less than the next
abbrev pub RisesFrom : ℕ → List ℕ → Type 0
RisesFrom low [] = Unit {0}
RisesFrom low (x ∷ xs) = (low ≤ x) × RisesFrom (x + 1) xs

-- each number is less than the next
abbrev pub IsRising : List ℕ → Type 0
IsRising xs = RisesFrom 0 xs

-- each number is less than the next, and all are below the width
pub record IsRisingBelow (width : ℕ) (xs : List ℕ) : Type 0 where
  pub rising : IsRising xs
  pub below : All (λ x. x < width) xs
