-- Pairs of items of lists that are strung together, and items by their places.
use Rattle.std.proofs.Common.{◌≡◌, ◌⊎◌, inl, inr, ℕ, ◌<◌, List, [], ◌∷◌, get_or, Some, slice_get, subst, arith}
use Rattle.std.proofs.lemmas.Bool.{cases_lt, cases_eq}
use Rattle.std.proofs.lemmas.List.Elements.{All-nil, All-cons, All-head, All-tail}
use Rattle.std.proofs.lemmas.Option.{slice_get_within, get_or_from_slice_get}
use Rattle.std.specs.List.{All, AllPairs, flat_map}
use Rattle.nego_base.proofs.ListLaws.{All-each, All-flat}
use Rattle.nego_base.proofs.PairLaws.{AllPairs-nil, AllPairs-cons, AllPairs-head, AllPairs-tail, AllPairs-append, AllPairs-front, AllPairs-back, AllPairs-between}

-- each item of the one list stands so to each of the other
abbrev pub AllBetween : {X : Type 0} → (X → X → Type 0) → List X → List X → Type 0
AllBetween R xs ys = All (λ x. All (R x) ys) xs

module _ {A X : Type 0} (R : X → X → Type 0) (f : A → List X) where
  -- the pairs of two pieces
  pub pairs_of_pieces : (xs : List A) → AllPairs R (flat_map f xs) → AllPairs (λ x y. AllBetween R (f x) (f y)) xs
  pairs_of_pieces [] h = AllPairs-nil (λ x y. AllBetween R (f x) (f y))
  pairs_of_pieces (x ∷ xs) h =
      let between = AllPairs-between R (f x) (flat_map f xs) h in
      AllPairs-cons (λ y z. AllBetween R (f y) (f z)) x xs (λ k d l m e n. All-each (R (get_or (f x) m e)) f xs (between m e n) k d l) (pairs_of_pieces xs (AllPairs-back R (f x) (flat_map f xs) h))

  -- the pairs of one piece
  pub pairs_inside : (xs : List A) → AllPairs R (flat_map f xs) → All (λ x. AllPairs R (f x)) xs
  pairs_inside [] h = All-nil (λ x. AllPairs R (f x))
  pairs_inside (x ∷ xs) h = All-cons (λ y. AllPairs R (f y)) x xs (AllPairs-front R (f x) (flat_map f xs) h) (pairs_inside xs (AllPairs-back R (f x) (flat_map f xs) h))

  -- and both are all
  pub pairs_of_all : (xs : List A) → AllPairs (λ x y. AllBetween R (f x) (f y)) xs → All (λ x. AllPairs R (f x)) xs → AllPairs R (flat_map f xs)
  pairs_of_all [] h k = AllPairs-nil R
  pairs_of_all (x ∷ xs) h k =
      let first = AllPairs-head (λ y z. AllBetween R (f y) (f z)) x xs h in
      AllPairs-append R (f x) (flat_map f xs) (All-head (λ y. AllPairs R (f y)) x xs k)
      (pairs_of_all xs (AllPairs-tail (λ y z. AllBetween R (f y) (f z)) x xs h) (All-tail (λ y. AllPairs R (f y)) x xs k))
      (λ m e n. All-flat (R (get_or (f x) m e)) f xs (λ i d l. first i d l m e n))

module _ {X : Type 0} where
  -- the pair of two places
  pub pair_at : (R : X → X → Type 0) (xs : List X) (i j : ℕ) (x y : X) → AllPairs R xs → i < j → slice_get xs i ≡ Some x → slice_get xs j ≡ Some y → R x y
  pair_at R xs i j x y h l at at' =
      subst (λ z. R z y) (get_or_from_slice_get xs i x x at)
      (subst (R (get_or xs i x)) (get_or_from_slice_get xs j y x at') (h i j x l (slice_get_within xs j y at')))
