-- Lists that rise by a total order: where an item stands or is to stand, what is in them after an edit, and that they are
-- known by what is in them.
use Rattle.std.proofs.Common.{◌≡◌, ◌≢◌, ◌↔◌, ◌⊎◌, inl, inr, ⊎_elim, ℕ, zero, suc, ◌<◌, ◌≤◌, List, [], ◌∷◌, ◌++◌, Bool, true, false, cond, IsTrue, length, take, drop, map, option_map, slice_get, get_or, Some, Result, Ok, Err, IfOk, IfErr, refl, sym, subst, ap, ap₂, ◌∙◌, arith}
use Rattle.std.specs.List.{All, AllPairs, Contains, filter, insert, remove}
use Rattle.std.specs.List.Sorted.{IsNonDecreasingBy, IsPartitionPoint, IsSearchInRange, IsBinarySearchResult}
use Rattle.std.specs.Result.{IsOk}
use Rattle.std.specs.Cmp.{IsTotalOrder}
use Rattle.std.specs.Ordering.{ordering_index, ordering_reverse}
use Rattle.std.specs.declared.cmp.Ordering.{Ordering}
use Rattle.std.specs.declared.cmp.Ordering.TheVariants.{Less, Equal, Greater}
use Rattle.std.proofs.lemmas.Bool.{true≢false, cond-true, cases_lt}
use Rattle.std.proofs.lemmas.Cmp.{tied_itself}
use Rattle.std.proofs.lemmas.List.{take-append-drop, length-map, get_or-map}
use Rattle.std.proofs.lemmas.List.Elements.{All-cons, All-append, All-contains, filter_passes, Contains-get_or, Contains-append_left, Contains-append_right, Contains-append_cases}
use Rattle.std.proofs.lemmas.List.Kept.{AllPairs-cons}
use Rattle.std.proofs.lemmas.Map.Lookups.{CmpEqualImpliesEq}
use Rattle.std.proofs.lemmas.Option.{none-some, same_Some, slice_get-map, slice_get_cases}

-- ---- what a list contains

module _ {X : Type 0} where
  pub Contains-head : (x : X) (xs : List X) → Contains (x ∷ xs) x
  Contains-head x xs = (0, omega arith, refl)

  pub Contains-tail : (y : X) (xs : List X) (x : X) → Contains xs x → Contains (y ∷ xs) x
  Contains-tail y xs x h = let lt = h.1 in (suc h.0, omega (arith, lt), h.2)

  pub Contains-cases : (y : X) (xs : List X) (x : X) → Contains (y ∷ xs) x → (x ≡ y) ⊎ Contains xs x
  Contains-cases y xs x (zero, lt, e) = inl (sym e)
  Contains-cases y xs x (suc k, lt, e) = inr (k, omega (arith, lt), e)

  pub Contains-nil : (x : X) → Contains [] x → ⊥
  Contains-nil x h = let lt = h.1 in omega (arith, lt)

  -- of a list in which one stands between two parts
  between_cases : (front back : List X) (y x : X) → Contains (front ++ y ∷ back) x → Contains (front ++ back) x ⊎ (x ≡ y)
  between_cases front back y x h =
      ⊎_elim (λ f. inl (Contains-append_left front back x f))
      (λ b. ⊎_elim (λ e. inr e) (λ q. inl (Contains-append_right front back x q)) (Contains-cases y back x b))
      (Contains-append_cases front (y ∷ back) x h)

  between_more : (front back : List X) (y x : X) → Contains (front ++ back) x → Contains (front ++ y ∷ back) x
  between_more front back y x h =
      ⊎_elim (λ f. Contains-append_left front (y ∷ back) x f) (λ b. Contains-append_right front (y ∷ back) x (Contains-tail y back x b)) (Contains-append_cases front back x h)

  between_itself : (front back : List X) (y : X) → Contains (front ++ y ∷ back) y
  between_itself front back y = Contains-append_right front (y ∷ back) y (Contains-head y back)

  -- what a list contains with one more
  pub Contains-insert : (xs : List X) (i : ℕ) (y x : X) → Contains (insert xs i y) x ↔ (Contains xs x ⊎ (x ≡ y))
  Contains-insert xs i y x = (
    λ h. ⊎_elim (λ c. inl (subst (λ l. Contains l x) (take-append-drop i xs) c)) (λ e. inr e) (between_cases (take i xs) (drop i xs) y x h),
    λ h. ⊎_elim (λ c. between_more (take i xs) (drop i xs) y x (subst (λ l. Contains l x) (sym (take-append-drop i xs)) c))
        (λ e. subst (Contains (insert xs i y)) (sym e) (between_itself (take i xs) (drop i xs) y)) h,
  )

  -- the item at a place stands between what is before it and what is behind it
  parted : (xs : List X) (i : ℕ) (y : X) → slice_get xs i ≡ Some y → take i xs ++ y ∷ drop (suc i) xs ≡ xs
  parted [] i y h = absurd (none-some y h)
  parted (x ∷ xs) zero y h = ap (λ z. z ∷ xs) (sym (same_Some x y h))
  parted (x ∷ xs) (suc i) y h = ap (◌∷◌ x) (parted xs i y h)

  -- the item at a place is one of the list
  pub Contains-place : (xs : List X) (i : ℕ) (y : X) → slice_get xs i ≡ Some y → Contains xs y
  Contains-place xs i y h = subst (λ l. Contains l y) (parted xs i y h) (between_itself (take i xs) (drop (suc i) xs) y)

  -- items that pass a test are of the list
  Contains-passing : (test : X → Bool) (xs : List X) (x : X) → Contains (filter test xs) x → Contains xs x
  Contains-passing test [] x c = c
  Contains-passing test (y ∷ ys) x c = go (test y) (Contains-passing test ys x) c
    where
      go : (b : Bool) → (Contains (filter test ys) x → Contains ys x) → Contains (cond b (y ∷ filter test ys) (filter test ys)) x → Contains (y ∷ ys) x
      go true more d = ⊎_elim (λ e. subst (Contains (y ∷ ys)) (sym e) (Contains-head y ys)) (λ q. Contains-tail y ys x (more q)) (Contains-cases y (filter test ys) x d)
      go false more d = Contains-tail y ys x (more d)

  -- what a list contains of the items that pass a test
  pub Contains-filter : (test : X → Bool) (xs : List X) (x : X) → Contains (filter test xs) x ↔ (Contains xs x × IsTrue (test x))
  Contains-filter test xs x = (
    λ c. (Contains-passing test xs x c, All-contains (λ y. IsTrue (test y)) (filter test xs) x (filter_passes test xs) c),
    λ c. kept xs c.0 c.1,
  )
    where
      kept : (ys : List X) → Contains ys x → IsTrue (test x) → Contains (filter test ys) x
      kept [] c t = c
      kept (y ∷ ys) c t = ⊎_elim
          (λ e. subst (λ l. Contains l x) (sym (cond-true (test y) (y ∷ filter test ys) (filter test ys) (subst (λ z. IsTrue (test z)) e t))) (subst (Contains (y ∷ filter test ys)) (sym e) (Contains-head y (filter test ys))))
          (λ q. go (test y) (kept ys q t))
          (Contains-cases y ys x c)
        where
          go : (b : Bool) → Contains (filter test ys) x → Contains (cond b (y ∷ filter test ys) (filter test ys)) x
          go true d = Contains-tail y (filter test ys) x d
          go false d = d

-- ---- lists that rise

module _ {X : Type 0} (R : X → X → Ordering) (o : IsTotalOrder R) where
  abbrev Below : X → X → Type 0
  Below x y = R x y ≡ Less

  never : (x : X) → R x x ≡ Less → ⊥
  never x h = absurd (true≢false (ap is_less (sym h ∙ tied_itself o x)))
    where
      is_less : Ordering → Bool
      is_less Less = true
      is_less Equal = false
      is_less Greater = false

  pairs_head : (x : X) (xs : List X) → AllPairs Below (x ∷ xs) → All (Below x) xs
  pairs_head x xs h k d lt = h 0 (suc k) d (omega arith) (omega (arith, lt))

  pairs_tail : (x : X) (xs : List X) → AllPairs Below (x ∷ xs) → AllPairs Below xs
  pairs_tail x xs h i j d lt l = h (suc i) (suc j) d (omega (arith, lt)) (omega (arith, l))

  -- what is below one is below what is not below this one
  below_index : (x y k : X) → R x y ≡ Less → ordering_index (R x k) ≤ ordering_index (R y k)
  below_index x y k h = go (R y k) refl
    where
      go : (r : Ordering) → R y k ≡ r → ordering_index (R x k) ≤ ordering_index r
      go Less e = subst (λ s. ordering_index s ≤ 0) (sym (o.trans x y k h e)) (omega arith)
      go Equal e = subst (λ s. ordering_index s ≤ 1) (sym (below_level e)) (omega arith)
        where
          below_level : R y k ≡ Equal → R x k ≡ Less
          below_level l = o.antisymm x k ∙ (ap ordering_reverse (sym (o.congr y k x l) ∙ o.antisymm y x) ∙ (twice (R x y) ∙ h))
            where
              twice : (s : Ordering) → ordering_reverse (ordering_reverse s) ≡ s
              twice Less = refl
              twice Equal = refl
              twice Greater = refl
      go Greater e = at_most_two (R x k)
        where
          at_most_two : (s : Ordering) → ordering_index s ≤ 2
          at_most_two Less = omega arith
          at_most_two Equal = omega arith
          at_most_two Greater = omega arith

  -- how the items of a list that rises compare with one never falls
  pub comparisons_rise : (xs : List X) (k : X) → AllPairs Below xs → IsNonDecreasingBy (λ x. ordering_index (R x k)) xs
  comparisons_rise xs k h i j d le lt = ⊎_elim
      (λ l. below_index (get_or xs i d) (get_or xs j d) k (h i j d l lt))
      (λ l. let e : i ≡ j = omega (arith, le, l) in subst (λ m. ordering_index (R (get_or xs i d) k) ≤ ordering_index (R (get_or xs m d) k)) e (omega arith))
      (cases_lt i j)

  -- a list rises with one more between what is below it and what it is below
  pub rises-insert : (xs : List X) (i : ℕ) (y : X) → AllPairs Below xs → i ≤ length xs → IsPartitionPoint (λ x. R x y ≡ Less) (λ x. R x y ≡ Greater) xs i → AllPairs Below (insert xs i y)
  rises-insert xs zero y h le parts =
      AllPairs-cons Below y xs (λ k d lt. o.antisymm y (get_or xs k d) ∙ ap ordering_reverse (parts.1 k d (omega arith) lt)) h
  rises-insert [] (suc i) y h le parts = absurd (omega (arith, le))
  rises-insert (x ∷ xs) (suc i) y h le parts =
      AllPairs-cons Below x (insert xs i y)
      (All-append (Below x) (take i xs) (y ∷ drop i xs) (part (take i xs) (λ z c. Contains-append_left (take i xs) (drop i xs) z c))
      (All-cons (Below x) y (drop i xs) (parts.0 0 x (omega arith) (omega arith)) (part (drop i xs) (λ z c. Contains-append_right (take i xs) (drop i xs) z c))))
      (rises-insert xs i y (pairs_tail x xs h) (omega (arith, le)) (
        λ k d low lt. parts.0 (suc k) d (omega arith) (omega (arith, lt)),
        λ k d low lt. parts.1 (suc k) d (omega (arith, low)) (omega (arith, lt)),
      ))
    where
      part : (zs : List X) → ((z : X) → Contains zs z → Contains (take i xs ++ drop i xs) z) → All (Below x) zs
      part zs within k d lt =
          let z = get_or zs k d in
          All-contains (Below x) xs z (pairs_head x xs h) (subst (λ l. Contains l z) (take-append-drop i xs) (within z (Contains-get_or zs k d lt)))

  -- what a list that rises contains without the item at a place
  pub Contains-remove : (xs : List X) (i : ℕ) (y x : X) → AllPairs Below xs → slice_get xs i ≡ Some y → Contains (remove xs i) x ↔ (Contains xs x × (x ≢ y))
  Contains-remove xs i y x h e = (
    λ c. (subst (λ l. Contains l x) (parted xs i y e) (between_more (take i xs) (drop (suc i) xs) y x c), λ q. apart xs i h e (subst (Contains (remove xs i)) q c)),
    λ c. ⊎_elim (λ k. k) (λ q. absurd (c.1 q)) (between_cases (take i xs) (drop (suc i) xs) y x (subst (λ l. Contains l x) (sym (parted xs i y e)) c.0)),
  )
    where
      apart : (zs : List X) (j : ℕ) → AllPairs Below zs → slice_get zs j ≡ Some y → Contains (remove zs j) y → ⊥
      apart [] j p q c = none-some y q
      apart (z ∷ zs) zero p q c = never y (subst (λ w. R w y ≡ Less) (same_Some z y q) (All-contains (Below z) zs y (pairs_head z zs p) c))
      apart (z ∷ zs) (suc j) p q c = ⊎_elim
          (λ k. never y (subst (λ w. R w y ≡ Less) (sym k) (All-contains (Below z) zs y (pairs_head z zs p) (subst (λ l. Contains l y) (parted zs j y q) (between_itself (take j zs) (drop (suc j) zs) y)))))
          (λ k. apart zs j (pairs_tail z zs p) q k)
          (Contains-cases z (remove zs j) y c)

  -- between what is below one and what it is below, this one isn't
  pub none_between : (xs : List X) (i : ℕ) (y : X) → IsPartitionPoint (λ x. R x y ≡ Less) (λ x. R x y ≡ Greater) xs i → Contains xs y → ⊥
  none_between xs i y parts c = ⊎_elim
      (λ l. never y (subst (λ x. R x y ≡ Less) c.2 (parts.0 c.0 y (omega arith) l)))
      (λ l. never y (subst (λ x. R y x ≡ Less) c.2 (o.antisymm y (get_or xs c.0 y) ∙ ap ordering_reverse (parts.1 c.0 y l c.1))))
      (cases_lt c.0 i)

  -- what a binary search for one finds in a list that rises, as its items are seen: its place, or the place where it is
  -- to stand
  pub searched : {Y : Type 0} (see : Y → X) → CmpEqualImpliesEq R → (ys : List Y) (k : X) (r : Result ℕ ℕ) → AllPairs Below (map see ys) → IsSearchInRange r (length ys) → IsBinarySearchResult (λ y. R (see y) k) ys r →
      IfOk r (λ i. slice_get (map see ys) i ≡ Some k) × IfErr r (λ i. (i ≤ length ys) × IsPartitionPoint (λ x. R x k ≡ Less) (λ x. R x k ≡ Greater) (map see ys) i)
  searched {Y} see exact ys k (Ok i) rise within equal = (⊎_elim at (λ past. absurd (omega (arith, past.0, within))) (slice_get_cases ys i).1, tt)
    where
      at : (y : Y) × (i < length ys) × (slice_get ys i ≡ Some y) × (get_or ys i y ≡ y) → slice_get (map see ys) i ≡ Some k
      at q = slice_get-map see ys i ∙ (ap (option_map see) q.2 ∙ ap Some (exact (see q.0) k (subst (λ y. R (see y) k ≡ Equal) q.3 (equal q.0))))
  searched {Y} see exact ys k (Err i) rise within parts = (
    tt,
    (
      within,
      (
        λ j d low lt. seen (λ x. R x k ≡ Less) j d (omega (arith, lt, within)) (λ e. (parts rising).0 j e low lt),
        λ j d low lt. let l : j < length ys = omega (arith, lt, length-map ys see) in seen (λ x. R x k ≡ Greater) j d l (λ e. (parts rising).1 j e low l),
      ),
    ),
  )
    where
      rising : IsNonDecreasingBy (λ y. ordering_index (R (see y) k)) ys
      rising a b d le lt =
          let long = length-map ys see in
          let h = comparisons_rise (map see ys) k rise a b (see d) le (omega (arith, lt, long)) in
          subst (λ x. ordering_index (R x k) ≤ ordering_index (R (see (get_or ys b d)) k)) (get_or-map see ys a d (see d) (omega (arith, le, lt)))
          (subst (λ x. ordering_index (R (get_or (map see ys) a (see d)) k) ≤ ordering_index (R x k)) (get_or-map see ys b d (see d) lt) h)

      seen : (P : X → Type 0) (j : ℕ) (d : X) → j < length ys → ((e : Y) → P (see (get_or ys j e))) → P (get_or (map see ys) j d)
      seen P j d lt h = ⊎_elim (λ q. subst P (sym (get_or-map see ys j q.0 d lt)) (h q.0)) (λ past. absurd (omega (arith, past.0, lt))) (slice_get_cases ys j).1

  -- a search that may say where one is to stand finds it where the list contains it
  pub found_there : (xs : List X) (y : X) (r : Result ℕ ℕ) → Contains xs y → IfErr r (IsPartitionPoint (λ x. R x y ≡ Less) (λ x. R x y ≡ Greater) xs) → IsOk r
  found_there xs y (Ok i) c h = refl
  found_there xs y (Err i) c h = absurd (none_between xs i y h c)

  -- lists that rise and contain the same are one
  pub rising_lists_are_one : (xs ys : List X) → AllPairs Below xs → AllPairs Below ys → ((x : X) → Contains xs x ↔ Contains ys x) → xs ≡ ys
  rising_lists_are_one [] [] h k same = refl
  rising_lists_are_one [] (y ∷ ys) h k same = absurd (Contains-nil y ((same y).1 (Contains-head y ys)))
  rising_lists_are_one (x ∷ xs) [] h k same = absurd (Contains-nil x ((same x).0 (Contains-head x xs)))
  rising_lists_are_one (x ∷ xs) (y ∷ ys) h k same =
      ap₂ ◌∷◌ heads (rising_lists_are_one xs ys (pairs_tail x xs h) (pairs_tail y ys k) (λ z. (
        λ c. rest z x y ys heads (All-contains (Below x) xs z (pairs_head x xs h) c) ((same z).0 (Contains-tail x xs z c)),
        λ c. rest z y x xs (sym heads) (All-contains (Below y) ys z (pairs_head y ys k) c) ((same z).1 (Contains-tail y ys z c)),
      )))
    where
      heads : x ≡ y
      heads = ⊎_elim (λ e. e)
          (λ c. ⊎_elim (λ e. sym e)
          (λ d. absurd (never x (o.trans x y x (All-contains (Below x) xs y (pairs_head x xs h) d) (All-contains (Below y) ys x (pairs_head y ys k) c))))
          (Contains-cases x xs y ((same y).1 (Contains-head y ys))))
          (Contains-cases y ys x ((same x).0 (Contains-head x xs)))

      -- what is above the first is behind it
      rest : (z u v : X) (vs : List X) → u ≡ v → R u z ≡ Less → Contains (v ∷ vs) z → Contains vs z
      rest z u v vs e l c = ⊎_elim (λ q. absurd (never z (subst (λ w. R w z ≡ Less) (e ∙ sym q) l))) (λ q. q) (Contains-cases v vs z c)
