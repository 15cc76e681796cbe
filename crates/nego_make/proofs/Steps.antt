-- How the lists that are made grow, item by item.
use Rattle.std.proofs.Common.{◌≡◌, ◌∙◌, ℕ, suc, ◌+◌, ◌-◌, ◌≤◌, Bool, true, false, ◌||◌, cond, List, [], ◌∷◌, ◌++◌, map, ap, sym, arith}
use Rattle.std.proofs.lemmas.List.{map-append, append-nil}
use Rattle.std.proofs.lemmas.List.Elements.{filter-append}
use Rattle.std.proofs.lemmas.List.Folds.{list_any-append}
use Rattle.std.specs.List.{filter, list_any, range_with_len}
use Rattle.nego_base.specs.Bits.{range-suc}

-- one number more
pub range-more : (a n j : ℕ) → a + n ≡ j → range_with_len a (n + 1) ≡ range_with_len a n ++ j ∷ []
range-more a n j e = ap (range_with_len a) (let s : n + 1 ≡ suc n = omega arith in s) ∙ (range-suc a n ∙ ap (λ k. range_with_len a n ++ k ∷ []) e)

-- the numbers behind i up to j, with j
pub range-up_to : (i j : ℕ) → i + 1 ≤ j → range_with_len (i + 1) (j + 1 - (i + 1)) ≡ range_with_len (i + 1) (j - (i + 1)) ++ j ∷ []
range-up_to i j h =
    ap (range_with_len (i + 1)) (let s : j + 1 - (i + 1) ≡ j - (i + 1) + 1 = omega (arith, h) in s)
    ∙ range-more (i + 1) (j - (i + 1)) j (omega (arith, h))

-- a test that fails at those numbers and at j
pub none_more : (test : ℕ → Bool) (i j : ℕ) → i + 1 ≤ j → list_any test (range_with_len (i + 1) (j - (i + 1))) ≡ false → test j ≡ false → list_any test (range_with_len (i + 1) (j + 1 - (i + 1))) ≡ false
none_more test i j h none here =
    ap (list_any test) (range-up_to i j h)
    ∙ (list_any-append test (range_with_len (i + 1) (j - (i + 1))) (j ∷ [])
    ∙ (ap (λ b. b || (test j || false)) none ∙ ap (λ b. b || false) here))

-- an item more, of what a function gives for these numbers
pub pushed : {X Y : Type 0} (content : X → Y) (f : ℕ → Y) (numbers : List ℕ) (j : ℕ) (old items : List X) (x : X) → items ≡ old ++ x ∷ [] → map content old ≡ map f numbers → content x ≡ f j →
    map content items ≡ map f (numbers ++ j ∷ [])
pushed content f numbers j old items x e so_far at =
    ap (map content) e
    ∙ (map-append content old (x ∷ [])
    ∙ (ap (λ ys. ys ++ content x ∷ []) so_far ∙ (ap (λ y. map f numbers ++ y ∷ []) at ∙ sym (map-append f numbers (j ∷ [])))))

-- a number that passes the test, and one that doesn't, behind those that were sifted
pub sifted_in : (test : ℕ → Bool) (xs : List ℕ) (x : ℕ) → test x ≡ true → filter test (xs ++ x ∷ []) ≡ filter test xs ++ x ∷ []
sifted_in test xs x h = filter-append test xs (x ∷ []) ∙ ap (λ b. filter test xs ++ cond b (x ∷ []) []) h

pub sifted_out : (test : ℕ → Bool) (xs : List ℕ) (x : ℕ) → test x ≡ false → filter test (xs ++ x ∷ []) ≡ filter test xs
sifted_out test xs x h = filter-append test xs (x ∷ []) ∙ (ap (λ b. filter test xs ++ cond b (x ∷ []) []) h ∙ append-nil (filter test xs))

-- an item more or none, as the test says
module _ {X Y : Type 0} (content : X → Y) (f : ℕ → Y) (test : ℕ → Bool) (numbers : List ℕ) (j : ℕ) (old : List X) where
  pub pushed_in : (items : List X) (x : X) → items ≡ old ++ x ∷ [] → map content old ≡ map f (filter test numbers) → content x ≡ f j → test j ≡ true → map content items ≡ map f (filter test (numbers ++ j ∷ []))
  pushed_in items x e so_far at h = pushed content f (filter test numbers) j old items x e so_far at ∙ ap (map f) (sym (sifted_in test numbers j h))

  pub left_out : map content old ≡ map f (filter test numbers) → test j ≡ false → map content old ≡ map f (filter test (numbers ++ j ∷ []))
  left_out so_far h = so_far ∙ ap (map f) (sym (sifted_out test numbers j h))
