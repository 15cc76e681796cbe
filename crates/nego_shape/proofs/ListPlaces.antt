-- The places of a list's members.
use Rattle.std.proofs.Common.{◌≡◌, ◌∙◌, ◌⊎◌, ◌||◌, ℕ, suc, ◌<◌, Bool, true, false, List, [], ◌∷◌, ◌++◌, length, take, reverse, get_or, ap, sym, subst, refl, ⊎_elim, arith, inl, inr}
use Rattle.std.proofs.lemmas.List.{get_or-take, length-take, reverse-append}
use Rattle.std.proofs.lemmas.List.Elements.{Contains-get_or}
use Rattle.nego_base.specs.Members.{is_in}
use Rattle.nego_base.proofs.Members.{is_in_none, is_in-cases, is_in-append, is_in-head, is_in-tail, is_in_single, member-Contains}

-- the item at a place is a member
pub is_in_at : (xs : List ℕ) (k d : ℕ) → k < length xs → is_in (get_or xs k d) xs ≡ true
is_in_at xs k d l = member-Contains (get_or xs k d) xs (Contains-get_or xs k d l)

-- a member has a place
pub place_in : (x : ℕ) (xs : List ℕ) → is_in x xs ≡ true → (k : ℕ) × (k < length xs) × (get_or xs k 0 ≡ x)
place_in x [] h = absurd (is_in_none x [] refl h)
place_in x (y ∷ ys) h =
    ⊎_elim
    (λ e. (0, omega arith, sym e))
    (λ m. let p = place_in x ys m in let l = p.1 in (suc p.0, omega (arith, l), p.2))
    (is_in-cases x y ys h)

-- the same of the first items
pub place_in_take : (x : ℕ) (xs : List ℕ) (k : ℕ) → is_in x (take k xs) ≡ true → (p : ℕ) × (p < k) × (p < length xs) × (get_or xs p 0 ≡ x)
place_in_take x xs k h =
    let p = place_in x (take k xs) h in
    let l = p.1 in
    let size = length-take k xs in
    let below : p.0 < k = omega (arith, l, size) in
    (p.0, below, omega (arith, l, size), sym (get_or-take k xs p.0 0 below) ∙ p.2)

pub in_take : (xs : List ℕ) (p k : ℕ) → p < k → p < length xs → is_in (get_or xs p 0) (take k xs) ≡ true
in_take xs p k below within =
    let size = length-take k xs in
    let P : ℕ → Type 0 = λ x. is_in x (take k xs) ≡ true in
    subst P (get_or-take k xs p 0 below) (is_in_at (take k xs) p 0 (omega (arith, below, within, size)))

-- a list's parts have its members alone
pub in_either : (x : ℕ) (xs ys : List ℕ) → is_in x (xs ++ ys) ≡ true → (is_in x xs ≡ true) ⊎ (is_in x ys ≡ true)
in_either x xs ys h = go (is_in x xs) (is_in x ys) (sym (is_in-append x xs ys) ∙ h)
  where
    go : (s t : Bool) → (s || t) ≡ true → (s ≡ true) ⊎ (t ≡ true)
    go true t q = inl refl
    go false t q = inr q

pub in_right : (x : ℕ) (xs ys : List ℕ) → is_in x ys ≡ true → is_in x (xs ++ ys) ≡ true
in_right x xs ys h = is_in-append x xs ys ∙ (ap (λ b. is_in x xs || b) h ∙ go (is_in x xs))
  where
    go : (b : Bool) → (b || true) ≡ true
    go true = refl
    go false = refl

pub reverse-cons : (x : ℕ) (xs : List ℕ) → reverse (x ∷ xs) ≡ reverse xs ++ x ∷ []
reverse-cons x xs = reverse-append (x ∷ []) xs

pub in_reverse : (x : ℕ) (xs : List ℕ) → is_in x (reverse xs) ≡ true → is_in x xs ≡ true
in_reverse x [] h = h
in_reverse x (y ∷ ys) h =
    ⊎_elim
    (λ m. is_in-tail x y ys (in_reverse x ys m))
    (λ m. let P : ℕ → Type 0 = λ z. is_in z (y ∷ ys) ≡ true in subst P (sym (is_in_single x y m)) (is_in-head y ys))
    (in_either x (reverse ys) (y ∷ []) (ap (is_in x) (sym (reverse-cons y ys)) ∙ h))
