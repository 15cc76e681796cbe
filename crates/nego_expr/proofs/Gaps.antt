-- A gap among items: a place of which the item does not matter. Where an item is to stand among the others.
use Rattle.std.proofs.Common.{◌≡◌, ◌≢◌, ◌↔◌, ◌⊎◌, inl, inr, ⊎_elim, ℕ, zero, suc, ◌+◌, ◌<◌, ◌≤◌, List, [], ◌∷◌, length, map, option_map, set, slice_get, get_or, Some, refl, sym, subst, ap, ◌∙◌, arith}
use Rattle.std.specs.List.{AllPairs, Contains, insert, remove, swap}
use Rattle.std.specs.List.Sorted.{IsPartitionPoint}
use Rattle.std.specs.Cmp.{IsTotalOrder}
use Rattle.std.specs.declared.cmp.Ordering.{Ordering}
use Rattle.std.specs.declared.cmp.Ordering.TheVariants.{Less, Greater}
use Rattle.std.proofs.lemmas.Bool.{cases_lt}
use Rattle.std.proofs.lemmas.List.{map-set}
use Rattle.std.proofs.lemmas.List.Edits.{get_or-remove_above, get_or-remove_below, length-remove, swap_is}
use Rattle.std.proofs.lemmas.List.Quantifiers.{all_pairs_remove}
use Rattle.std.proofs.lemmas.Option.{none-some, same_Some, slice_get_within, slice_get_cases, slice_get-map, slice_get-get_or}
use Rattle.nego_expr.proofs.RisingLists.{Contains-insert, Contains-remove, rises-insert}

module _ {X : Type 0} where
  -- what is put into the gap is put among the others
  pub set-gap : (xs : List X) (i : ℕ) (y : X) → i < length xs → set xs i y ≡ insert (remove xs i) i y
  set-gap [] i y h = absurd (omega (arith, h))
  set-gap (x ∷ xs) zero y h = refl
  set-gap (x ∷ xs) (suc i) y h = ap (◌∷◌ x) (set-gap xs i y (omega (arith, h)))

  -- the item behind the gap moves into it
  pub gap-up : (xs : List X) (i j : ℕ) (y : X) → j ≡ i + 1 → slice_get xs j ≡ Some y → remove (set xs i y) j ≡ remove xs i
  gap-up [] i j y n e = absurd (none-some y e)
  gap-up (x ∷ xs) i zero y n e = absurd (omega (arith, n))
  gap-up (x ∷ xs) (suc i) (suc j) y n e = ap (◌∷◌ x) (gap-up xs i j y (omega (arith, n)) e)
  gap-up (x ∷ xs) zero (suc (suc j)) y n e = absurd (omega (arith, n))
  gap-up (x ∷ []) zero (suc zero) y n e = absurd (none-some y e)
  gap-up (x ∷ z ∷ zs) zero (suc zero) y n e = ap (λ w. w ∷ zs) (sym (same_Some z y e))

  -- the item before the gap moves into it
  pub gap-down : (xs : List X) (i j : ℕ) (y : X) → j + 1 ≡ i → i < length xs → slice_get xs j ≡ Some y → remove (set xs i y) j ≡ remove xs i
  gap-down [] i j y n l e = absurd (omega (arith, l))
  gap-down (x ∷ xs) zero j y n l e = absurd (omega (arith, n))
  gap-down (x ∷ xs) (suc i) (suc j) y n l e = ap (◌∷◌ x) (gap-down xs i j y (omega (arith, n)) (omega (arith, l)) e)
  gap-down (x ∷ xs) (suc (suc i)) zero y n l e = absurd (omega (arith, n))
  gap-down (x ∷ []) (suc zero) zero y n l e = absurd (omega (arith, l))
  gap-down (x ∷ z ∷ zs) (suc zero) zero y n l e = ap (λ w. w ∷ zs) (sym (same_Some x y e))

  -- what stands at a place doesn't matter where it is taken away
  remove-set : (xs : List X) (i : ℕ) (y : X) → remove (set xs i y) i ≡ remove xs i
  remove-set [] i y = refl
  remove-set (x ∷ xs) zero y = refl
  remove-set (x ∷ xs) (suc i) y = ap (◌∷◌ x) (remove-set xs i y)

  module _ (P Q : X → Type 0) where
    -- a point before an item is one without the item too
    pub point-before : (xs : List X) (i j : ℕ) → j ≤ i → i < length xs → IsPartitionPoint P Q xs j → IsPartitionPoint P Q (remove xs i) j
    point-before xs i j le l parts = (
      λ k d low lt. subst P (sym (get_or-remove_below xs i d k (omega (arith, le, lt)) l)) (parts.0 k d low lt),
      λ k d low lt. ⊎_elim
          (λ b. subst Q (sym (get_or-remove_below xs i d k b l)) (parts.1 k d low (omega (arith, b, l))))
          (λ b. subst Q (sym (get_or-remove_above xs i d k b l)) (parts.1 (k + 1) d (omega (arith, low)) (omega (arith, lt, length-remove xs i l))))
          (cases_lt k i),
    )

    -- a point behind an item is one place lower without the item
    pub point-behind : (xs : List X) (i j m : ℕ) → i < j → m + 1 ≡ j → i < length xs → IsPartitionPoint P Q xs j → IsPartitionPoint P Q (remove xs i) m
    point-behind xs i j m le n l parts = (
      λ k d low lt. ⊎_elim
          (λ b. subst P (sym (get_or-remove_below xs i d k b l)) (parts.0 k d low (omega (arith, lt, n))))
          (λ b. subst P (sym (get_or-remove_above xs i d k b l)) (parts.0 (k + 1) d (omega arith) (omega (arith, lt, n))))
          (cases_lt k i),
      λ k d low lt. subst Q (sym (get_or-remove_above xs i d k (omega (arith, low, le, n)) l)) (parts.1 (k + 1) d (omega (arith, low, n)) (omega (arith, lt, length-remove xs i l))),
    )

module _ {X : Type 0} (R : X → X → Ordering) (o : IsTotalOrder R) where
  -- a list that rises, and one in which an item is put where it is to stand, for another
  pub replaced : (xs ys : List X) (i j : ℕ) (z y : X) → AllPairs (λ a b. R a b ≡ Less) xs → slice_get xs i ≡ Some z → j < length xs →
      IsPartitionPoint (λ x. R x y ≡ Less) (λ x. R x y ≡ Greater) (remove xs i) j → ys ≡ insert (remove xs i) j y →
      AllPairs (λ a b. R a b ≡ Less) ys × ((x : X) → Contains ys x ↔ ((Contains xs x × (x ≢ z)) ⊎ (x ≡ y)))
  replaced xs ys i j z y rise at l parts is = (
    subst (AllPairs (λ a b. R a b ≡ Less)) (sym is)
        (rises-insert R o (remove xs i) j y (all_pairs_remove (λ a b. R a b ≡ Less) xs i within rise) (omega (arith, l, length-remove xs i within)) parts),
    λ x. subst (λ zs. Contains zs x ↔ ((Contains xs x × (x ≢ z)) ⊎ (x ≡ y))) (sym is) (
      λ h. ⊎_elim (λ k. inl ((Contains-remove R o xs i z x rise at).0 k)) (λ e. inr e) ((Contains-insert (remove xs i) j y x).0 h),
      λ h. (Contains-insert (remove xs i) j y x).1 (⊎_elim (λ k. inl ((Contains-remove R o xs i z x rise at).1 k)) (λ e. inr e) h),
    ),
  )
    where
      within : i < length xs
      within = slice_get_within xs i z at

-- the gap and the item beside it change over
pub gap-swap : {X Y : Type 0} (see : X → Y) (xs : List X) (i j : ℕ) → i < length xs → j < length xs →
    ((y : Y) → slice_get (map see xs) j ≡ Some y → remove (set (map see xs) i y) j ≡ remove (map see xs) i) → remove (map see (swap xs i j)) j ≡ remove (map see xs) i
gap-swap {X} {Y} see xs i j li lj moved = ⊎_elim go (λ past. absurd (omega (arith, past.0, lj))) (slice_get_cases xs j).1
  where
    go : (x : X) × (j < length xs) × (slice_get xs j ≡ Some x) × (get_or xs j x ≡ x) → remove (map see (swap xs i j)) j ≡ remove (map see xs) i
    go q =
        let a : X = get_or xs j q.0 in
        let b : X = get_or xs i q.0 in
        ap (λ zs. remove (map see zs) j) (sym (swap_is xs i j q.0 li lj))
        ∙ (ap (λ zs. remove zs j) (map-set see (set xs i a) j b ∙ ap (λ zs. set zs j (see b)) (map-set see xs i a))
        ∙ (remove-set (set (map see xs) i (see a)) j (see b)
        ∙ moved (see a) (slice_get-map see xs j ∙ ap (option_map see) (slice_get-get_or xs j q.0 lj))))
