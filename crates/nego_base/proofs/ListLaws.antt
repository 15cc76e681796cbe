-- The item at a place, and lists in parts.
use Rattle.std.proofs.Common.{◌≡◌, ◌∙◌, ◌⊎◌, ⊎_elim, inl, inr, ℕ, zero, suc, ◌+◌, ◌-◌, ◌<◌, ◌≤◌, List, [], ◌∷◌, ◌++◌, length, map, replicate, take, drop, get_or, slice_get, Some, None, refl, sym, ap, subst, arith, add-one}
use Rattle.std.specs.List.{All, flat_map}
use Rattle.std.specs.Option.{option_map}
use Rattle.std.proofs.Math.Seq.{drop-cons}
use Rattle.std.proofs.lemmas.List.{take_more, map-append}
use Rattle.std.proofs.lemmas.List.Elements.{All-nil, All-cons, All-head, All-tail, All-append}
use Rattle.std.proofs.lemmas.Option.{none-some, same_Some, slice_get-map, get_or_from_slice_get, slice_get_within}

-- ---- the item at a place

module _ {A : Type 0} where
  -- an item, and those behind it
  pub cut_at : (xs : List A) (i : ℕ) (x : A) → i < length xs → x ≡ get_or xs i x → drop i xs ≡ x ∷ drop (i + 1) xs
  cut_at xs i x inside is =
      let cut : drop i xs ≡ get_or xs i x ∷ drop (i + 1) xs = rw add-one (drop-cons xs i x inside) in
      cut ∙ ap (λ (y : A). y ∷ drop (i + 1) xs) (sym is)

  -- the items before it, it, and those behind it
  pub parts_at : (xs : List A) (i : ℕ) (x : A) → slice_get xs i ≡ Some x → (front : List A) × (rest : List A) × (xs ≡ front ++ x ∷ rest) × (length front ≡ i)
  parts_at [] i x h = absurd (none-some x h)
  parts_at (y ∷ ys) zero x h = ([], ys, ap (λ z. z ∷ ys) (same_Some y x h), refl)
  parts_at (y ∷ ys) (suc i) x h = let k = parts_at ys i x h in (y ∷ k.0, k.1, ap (◌∷◌ y) k.2, ap suc k.3)

  -- no item is at a place past the last
  pub none_at : (xs : List A) (i : ℕ) → slice_get xs i ≡ None → length xs ≤ i
  none_at [] i h = omega arith
  none_at (x ∷ xs) zero h = absurd (none-some x (sym h))
  none_at (x ∷ xs) (suc i) h = let l = none_at xs i h in omega (arith, l)

  -- the item of two lists joined, in the first
  pub at_front : (xs ys : List A) (i : ℕ) (x : A) → slice_get xs i ≡ Some x → slice_get (xs ++ ys) i ≡ Some x
  at_front [] ys i x h = absurd (none-some x h)
  at_front (z ∷ xs) ys zero x h = h
  at_front (z ∷ xs) ys (suc i) x h = at_front xs ys i x h

  -- and in the second
  pub at_back : (xs ys : List A) (i : ℕ) → slice_get xs i ≡ None → slice_get (xs ++ ys) i ≡ slice_get ys (i - length xs)
  at_back [] ys i h = let e : i ≡ i - 0 = omega arith in ap (slice_get ys) e
  at_back (z ∷ xs) ys zero h = absurd (none-some z (sym h))
  at_back (z ∷ xs) ys (suc i) h = let e : i - length xs ≡ suc i - suc (length xs) = omega arith in at_back xs ys i h ∙ ap (slice_get ys) e

  pub at_length : (xs ys : List A) (i : ℕ) → slice_get (xs ++ ys) (length xs + i) ≡ slice_get ys i
  at_length [] ys i = let e : 0 + i ≡ i = omega arith in ap (slice_get ys) e
  at_length (x ∷ xs) ys i = let e : suc (length xs) + i ≡ suc (length xs + i) = omega arith in ap (slice_get (x ∷ (xs ++ ys))) e ∙ at_length xs ys i

  -- what all items have, the item at a place has
  pub All-at : (P : A → Type 0) (xs : List A) (i : ℕ) (x : A) → All P xs → slice_get xs i ≡ Some x → P x
  All-at P xs i x h at = subst P (get_or_from_slice_get xs i x x at) (h i x (slice_get_within xs i x at))

  -- a list is empty, or has a last item
  pub last_item : (xs : List A) → (xs ≡ []) ⊎ ((front : List A) × (x : A) × (xs ≡ front ++ x ∷ []))
  last_item [] = inl refl
  last_item (x ∷ xs) = ⊎_elim (λ e. inr ([], x, ap (◌∷◌ x) e)) (λ h. inr (x ∷ h.0, h.1, ap (◌∷◌ x) h.2)) (last_item xs)

-- the item of a mapped list at a place
pub mapped_at : {A B : Type 0} (f : A → B) (xs : List A) (i : ℕ) (x : A) → slice_get xs i ≡ Some x → slice_get (map f xs) i ≡ Some (f x)
mapped_at f xs i x at = slice_get-map f xs i ∙ ap (option_map f) at

-- an item so often, each mapped
pub map-replicate : {A B : Type 0} (f : A → B) (n : ℕ) (x : A) → map f (replicate n x) ≡ replicate n (f x)
map-replicate f zero x = refl
map-replicate f (suc n) x = ap (λ xs. f x ∷ xs) (map-replicate f n x)

-- one item more of those so far, each mapped
pub map-take_more : {A B : Type 0} (f : A → B) (xs : List A) (i : ℕ) (d x : A) → i < length xs → get_or xs i d ≡ x → map f (take (i + 1) xs) ≡ map f (take i xs) ++ f x ∷ []
map-take_more f xs i d x within read =
    ap (map f) (take_more xs i d within) ∙ map-append f (take i xs) (get_or xs i d ∷ []) ∙ ap (λ y. map f (take i xs) ++ f y ∷ []) read

-- ---- what all items have, part by part

module _ {A : Type 0} (P : A → Type 0) where
  pub All-front : (xs ys : List A) → All P (xs ++ ys) → All P xs
  All-front [] ys h = All-nil P
  All-front (x ∷ xs) ys h = All-cons P x xs (All-head P x (xs ++ ys) h) (All-front xs ys (All-tail P x (xs ++ ys) h))

  pub All-back : (xs ys : List A) → All P (xs ++ ys) → All P ys
  All-back [] ys h = h
  All-back (x ∷ xs) ys h = All-back xs ys (All-tail P x (xs ++ ys) h)

  pub All-push : (xs : List A) (x : A) → All P xs → P x → All P (xs ++ x ∷ [])
  All-push xs x h p = All-append P xs (x ∷ []) h (All-cons P x [] p (All-nil P))

  -- of lists that are joined
  pub All-each : {B : Type 0} (f : B → List A) (ys : List B) → All P (flat_map f ys) → All (λ y. All P (f y)) ys
  All-each f [] h = All-nil (λ y. All P (f y))
  All-each f (y ∷ ys) h = All-cons (λ z. All P (f z)) y ys (All-front (f y) (flat_map f ys) h) (All-each f ys (All-back (f y) (flat_map f ys) h))

  pub All-flat : {B : Type 0} (f : B → List A) (ys : List B) → All (λ y. All P (f y)) ys → All P (flat_map f ys)
  All-flat f [] h = All-nil P
  All-flat f (y ∷ ys) h = All-append P (f y) (flat_map f ys) (All-head (λ z. All P (f z)) y ys h) (All-flat f ys (All-tail (λ z. All P (f z)) y ys h))

  -- of what items are mapped to
  pub All-unmap : {B : Type 0} (f : B → A) (ys : List B) → All P (map f ys) → All (λ y. P (f y)) ys
  All-unmap f [] h = All-nil (λ y. P (f y))
  All-unmap f (y ∷ ys) h = All-cons (λ z. P (f z)) y ys (All-head P (f y) (map f ys) h) (All-unmap f ys (All-tail P (f y) (map f ys) h))
