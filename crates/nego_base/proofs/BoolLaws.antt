-- Laws on tests, and on lists of which all or some items pass a test.
use Rattle.std.proofs.Common.{◌≡◌, ℕ, zero, suc, ◌≤◌, Bool, true, false, not, cond, ◌&&◌, ◌||◌, List, [], ◌∷◌, length, slice_get, Some, ⊎_elim, refl, sym, ap, ap₂, subst, ◌∙◌, arith}
use Rattle.std.proofs.lemmas.Bool.{or_cases, or_left, or_right, and_parts, and_from, cond-true, false≢true}
use Rattle.std.proofs.lemmas.List.Elements.{All-nil, All-cons, All-head, All-tail}
use Rattle.std.proofs.lemmas.Option.{none-some, same_Some}
use Rattle.std.specs.List.{All, list_any, list_all, filter}

-- tests of which each holds where the other does are the same
pub same_tests : (s t : Bool) → (s ≡ true → t ≡ true) → (t ≡ true → s ≡ true) → s ≡ t
same_tests true t f g = sym (f refl)
same_tests false true f g = g refl
same_tests false false f g = refl

-- neither of two tests
pub neither : (s t : Bool) → (s || t) ≡ false → (s ≡ false) × (t ≡ false)
neither false t h = (refl, h)
neither true t h = absurd (false≢true (sym h))

-- of two tests that don't both hold, the other fails where the one holds
pub not_both : (s t : Bool) → (s && t) ≡ false → s ≡ true → t ≡ false
not_both true t h e = h
not_both false t h e = absurd (false≢true e)

-- and the way back
pub both_false : (s t : Bool) → (s ≡ true → t ≡ false) → (s && t) ≡ false
both_false true t h = h refl
both_false false t h = refl

-- the opposite of a test that holds
pub not_true : (t : Bool) → t ≡ true → not t ≡ false
not_true t h = rw h refl

-- a test whose opposite fails
pub not_not : (t : Bool) → not t ≡ false → t ≡ true
not_not true h = refl
not_not false h = absurd (false≢true (sym h))

-- a test whose opposite holds
pub not_so : (t : Bool) → not t ≡ true → t ≡ false
not_so false h = refl
not_so true h = absurd (false≢true h)

module _ {X : Type 0} where
  -- an item that passes a test which some item passes, with what holds of each
  pub passing_item : (test : X → Bool) (P : X → Type 0) (xs : List X) → list_any test xs ≡ true → All P xs → (x : X) × (test x ≡ true) × P x
  passing_item test P [] h k = absurd (false≢true h)
  passing_item test P (x ∷ xs) h k =
      ⊎_elim (λ e. (x, e, All-head P x xs k)) (λ m. passing_item test P xs m (All-tail P x xs k)) (or_cases (test x) (list_any test xs) h)

  -- some item passes a test where some item passes a stricter one
  pub any_passes : (strict test : X → Bool) (xs : List X) → list_any strict xs ≡ true → All (λ x. strict x ≡ true → test x ≡ true) xs → list_any test xs ≡ true
  any_passes strict test [] h k = h
  any_passes strict test (x ∷ xs) h k =
      ⊎_elim (λ e. or_left (test x) (list_any test xs) (All-head (λ y. strict y ≡ true → test y ≡ true) x xs k e))
      (λ m. or_right (test x) (list_any test xs) (any_passes strict test xs m (All-tail (λ y. strict y ≡ true → test y ≡ true) x xs k)))
      (or_cases (strict x) (list_any strict xs) h)

  -- each item passes a test where each passes a stricter one
  pub all_pass : (strict test : X → Bool) (xs : List X) → list_all strict xs ≡ true → All (λ x. strict x ≡ true → test x ≡ true) xs → list_all test xs ≡ true
  all_pass strict test [] h k = h
  all_pass strict test (x ∷ xs) h k =
      let p = and_parts (strict x) (list_all strict xs) h in
      and_from (test x) (list_all test xs) (All-head (λ y. strict y ≡ true → test y ≡ true) x xs k p.0)
      (all_pass strict test xs p.1 (All-tail (λ y. strict y ≡ true → test y ≡ true) x xs k))

  -- each item fails a test that none passes
  pub any_none : (test : X → Bool) (xs : List X) → list_any test xs ≡ false → All (λ x. test x ≡ false) xs
  any_none test [] h = All-nil (λ x. test x ≡ false)
  any_none test (x ∷ xs) h = let k = neither (test x) (list_any test xs) h in All-cons (λ y. test y ≡ false) x xs k.0 (any_none test xs k.1)

  -- the place of an item that passes a test which some item passes
  pub any_place : (test : X → Bool) (xs : List X) → list_any test xs ≡ true → (k : ℕ) × (x : X) × (slice_get xs k ≡ Some x) × (test x ≡ true)
  any_place test [] h = absurd (false≢true h)
  any_place test (x ∷ xs) h =
      ⊎_elim (λ e. (0, x, refl, e)) (λ m. let k = any_place test xs m in (suc k.0, k.1, k.2, k.3)) (or_cases (test x) (list_any test xs) h)

  -- some item passes a test that the item at a place passes
  pub any_from_place : (test : X → Bool) (xs : List X) (k : ℕ) (x : X) → slice_get xs k ≡ Some x → test x ≡ true → list_any test xs ≡ true
  any_from_place test [] k x at t = absurd (none-some x at)
  any_from_place test (y ∷ xs) zero x at t = or_left (test y) (list_any test xs) (let e : y ≡ x = same_Some y x at in subst (λ z. test z ≡ true) (sym e) t)
  any_from_place test (y ∷ xs) (suc k) x at t = or_right (test y) (list_any test xs) (any_from_place test xs k x at t)

  -- the items that pass a test are no more than there are
  pub length-filter_le : (test : X → Bool) (xs : List X) → length (filter test xs) ≤ length xs
  length-filter_le test [] = omega arith
  length-filter_le test (x ∷ xs) = go (test x) (length-filter_le test xs)
    where
      go : (b : Bool) → length (filter test xs) ≤ length xs → length (cond b (x ∷ filter test xs) (filter test xs)) ≤ suc (length xs)
      go true h = omega (arith, h)
      go false h = omega (arith, h)

  -- tests that agree on each item pass the same items
  pub filter-alike : (one two : X → Bool) (xs : List X) → All (λ x. one x ≡ two x) xs → filter one xs ≡ filter two xs
  filter-alike one two [] h = refl
  filter-alike one two (x ∷ xs) h =
      ap₂ (λ b ys. cond b (x ∷ ys) ys) (All-head (λ y. one y ≡ two y) x xs h) (filter-alike one two xs (All-tail (λ y. one y ≡ two y) x xs h))

  -- a test that each item passes leaves all
  pub filter-all : (test : X → Bool) (xs : List X) → All (λ x. test x ≡ true) xs → filter test xs ≡ xs
  filter-all test [] h = refl
  filter-all test (x ∷ xs) h =
      cond-true (test x) (x ∷ filter test xs) (filter test xs) (All-head (λ y. test y ≡ true) x xs h)
      ∙ ap (λ ys. x ∷ ys) (filter-all test xs (All-tail (λ y. test y ≡ true) x xs h))

  -- where the first of some items passes, the others decide whether all do
  pub others_decide : (test : X → Bool) (x : X) (xs others : List X) (whole : Bool) → xs ≡ x ∷ others → test x ≡ true → list_all test xs ≡ whole → list_all test others ≡ whole
  others_decide test x xs others whole e passes h = sym (ap (λ b. b && list_all test others) passes) ∙ (sym (ap (list_all test) e) ∙ h)
