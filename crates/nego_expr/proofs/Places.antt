-- Places of alive outcomes in their list, by rising number: what a search finds, and what an edit at a place does.
use Rattle.std.proofs.Common.{◌≡◌, ◌≢◌, ⊎_elim, ℕ, zero, suc, ◌+◌, ◌<◌, ◌≤◌, ◌==◌, not, cond, Bool, true, false, List, [], ◌∷◌, length, map, option_map, slice_get, get_or, set, Some, None, Result, Ok, Err, IfSome, IfNone, refl, sym, subst, ap, ap₂, ◌∙◌, arith, ne_eqb, eq-eqb}
use Rattle.std.specs.List.{All, filter, find, insert, remove}
use Rattle.std.specs.List.Sorted.{IsSearchInRange, IsBinarySearchResult, IsNonDecreasingBy}
use Rattle.std.specs.Result.{result_ok}
use Rattle.std.specs.Ordering.{nat_cmp, ordering_index}
use Rattle.std.proofs.lemmas.Bool.{cond-true, cond-false, cases_lt}
use Rattle.std.proofs.lemmas.Bool.Decides.{nat_tests}
use Rattle.std.proofs.lemmas.Cmp.{ranked}
use Rattle.std.proofs.lemmas.Option.{same_Some, slice_get-map, slice_get_cases, slice_get_within, slice_get_read}
use Rattle.std.proofs.lemmas.List.Elements.{All-nil, All-cons, All-head, All-tail, All-weaker}
use Rattle.std.proofs.lemmas.List.{map-set, length-map}
use Rattle.nego_base.specs.Members.{RisesFrom, IsRising}
use Rattle.nego_expr.specs.Work.{WorkOutcome, outcome_among}
use Rattle.nego_expr.specs.Edits.{with_outcome}
use Rattle.nego_expr.proofs.Alive.{outcome_among_later, each_found}
use Rattle.nego_expr.proofs.WorkEdits.{numbers_of, All-at_place, found-number}

-- the outcome at a place is found by its number
pub found-place : (ys : List WorkOutcome) (i : ℕ) (y : WorkOutcome) → IsRising (numbers_of ys) → slice_get ys i ≡ Some y → outcome_among ys y.number ≡ Some y
found-place ys i y rise e = All-at_place (λ z. outcome_among ys z.number ≡ Some z) ys i y (each_found ys rise) e

-- numbers that rise from a low one are not below it
pub numbers_above : (low : ℕ) (ys : List WorkOutcome) → RisesFrom low (numbers_of ys) → All (λ y. low ≤ y.number) ys
numbers_above low [] h = All-nil (λ y. low ≤ y.number)
numbers_above low (y ∷ ys) h =
    All-cons (λ z. low ≤ z.number) y ys h.0
    (All-weaker (λ z. y.number + 1 ≤ z.number) (λ z. low ≤ z.number)
    (λ z k. let above : y.number + 1 ≤ z.number = k in let from : low ≤ y.number = h.0 in omega (arith, above, from)) ys (numbers_above (y.number + 1) ys h.1))

-- outcomes of higher numbers stay where the one of a number is changed
higher_stay : (change : WorkOutcome → WorkOutcome) (ys : List WorkOutcome) (o : ℕ) → All (λ y. o + 1 ≤ y.number) ys → map (λ y. cond (y.number == o) (change y) y) ys ≡ ys
higher_stay change [] o h = refl
higher_stay change (y ∷ ys) o h =
    let above : o + 1 ≤ y.number = All-head (λ z. o + 1 ≤ z.number) y ys h in
    ap₂ ◌∷◌ (cond-false (y.number == o) (change y) y (ne_eqb y.number o (λ e. let no_more : ⊥ = omega (arith, above, e) in no_more)))
    (higher_stay change ys o (All-tail (λ z. o + 1 ≤ z.number) y ys h))

-- they stay where the one of a number is taken away
higher_left : (ys : List WorkOutcome) (o : ℕ) → All (λ y. o + 1 ≤ y.number) ys → filter (λ y. not (y.number == o)) ys ≡ ys
higher_left [] o h = refl
higher_left (y ∷ ys) o h =
    let above : o + 1 ≤ y.number = All-head (λ z. o + 1 ≤ z.number) y ys h in
    ap (λ b. cond (not b) (y ∷ filter (λ z. not (z.number == o)) ys) (filter (λ z. not (z.number == o)) ys)) (ne_eqb y.number o (λ e. let no_more : ⊥ = omega (arith, above, e) in no_more))
    ∙ ap (◌∷◌ y) (higher_left ys o (All-tail (λ z. o + 1 ≤ z.number) y ys h))

-- the first outcome is the one before a higher place
lower_first : (x : WorkOutcome) (xs : List WorkOutcome) (i : ℕ) (y : WorkOutcome) → RisesFrom (x.number + 1) (numbers_of xs) → slice_get xs i ≡ Some y → (x.number == y.number) ≡ false
lower_first x xs i y h e =
    let above : x.number + 1 ≤ y.number = All-at_place (λ z. x.number + 1 ≤ z.number) xs i y (numbers_above (x.number + 1) xs h) e in
    ne_eqb x.number y.number (λ q. let no_more : ⊥ = omega (arith, above, q) in no_more)

-- a change at a place is a change of the outcome of its number
pub set-place : (change : WorkOutcome → WorkOutcome) (low : ℕ) (ys : List WorkOutcome) (i : ℕ) (y : WorkOutcome) → RisesFrom low (numbers_of ys) → slice_get ys i ≡ Some y →
    set ys i (change y) ≡ map (λ x. cond (x.number == y.number) (change x) x) ys
set-place change low [] i y h e = absurd (let l : i < 0 = slice_get_within [] i y e in omega (arith, l))
set-place change low (x ∷ xs) zero y h e =
    subst (λ z. change z ∷ xs ≡ map (λ w. cond (w.number == z.number) (change w) w) (x ∷ xs)) (same_Some x y e)
    (sym (ap₂ ◌∷◌ (cond-true (x.number == x.number) (change x) x (eq-eqb x.number x.number refl)) (higher_stay change xs x.number (numbers_above (x.number + 1) xs h.1))))
set-place change low (x ∷ xs) (suc i) y h e =
    ap₂ ◌∷◌ (sym (cond-false (x.number == y.number) (change x) x (lower_first x xs i y h.1 e))) (set-place change (x.number + 1) xs i y h.1 e)

-- what is taken at a place is the outcome of its number
remove-place : (low : ℕ) (ys : List WorkOutcome) (i : ℕ) (y : WorkOutcome) → RisesFrom low (numbers_of ys) → slice_get ys i ≡ Some y → remove ys i ≡ filter (λ x. not (x.number == y.number)) ys
remove-place low [] i y h e = absurd (let l : i < 0 = slice_get_within [] i y e in omega (arith, l))
remove-place low (x ∷ xs) zero y h e =
    subst (λ z. xs ≡ filter (λ w. not (w.number == z.number)) (x ∷ xs)) (same_Some x y e)
    (sym (ap (λ b. cond (not b) (x ∷ filter (λ w. not (w.number == x.number)) xs) (filter (λ w. not (w.number == x.number)) xs)) (eq-eqb x.number x.number refl)
    ∙ higher_left xs x.number (numbers_above (x.number + 1) xs h.1)))
remove-place low (x ∷ xs) (suc i) y h e =
    ap (◌∷◌ x) (remove-place (x.number + 1) xs i y h.1 e)
    ∙ sym (ap (λ b. cond (not b) (x ∷ filter (λ w. not (w.number == y.number)) xs) (filter (λ w. not (w.number == y.number)) xs)) (lower_first x xs i y h.1 e))

-- a lower number's answer comes before that of a higher
index_rises : (a b o : ℕ) → a ≤ b → ordering_index (nat_cmp a o) ≤ ordering_index (nat_cmp b o)
index_rises a b o h = grind (arith, nat_tests)

-- ---- items, and what they are seen as

module _ {X Y : Type 0} (see : X → Y) where
  -- items that pass a test are seen as those that pass it
  pub filter-seen : (test : Y → Bool) (xs : List X) → map see (filter (λ x. test (see x)) xs) ≡ filter test (map see xs)
  filter-seen test [] = refl
  filter-seen test (x ∷ xs) = go (test (see x)) (filter-seen test xs)
    where
      go : (b : Bool) → map see (filter (λ y. test (see y)) xs) ≡ filter test (map see xs) →
          map see (cond b (x ∷ filter (λ y. test (see y)) xs) (filter (λ y. test (see y)) xs)) ≡ cond b (see x ∷ filter test (map see xs)) (filter test (map see xs))
      go true k = ap (◌∷◌ (see x)) k
      go false k = k

  -- the first that passes a test is seen as the first that does
  pub find-seen : (test : Y → Bool) (xs : List X) → option_map see (find (λ x. test (see x)) xs) ≡ find test (map see xs)
  find-seen test [] = refl
  find-seen test (x ∷ xs) = go (test (see x)) (find-seen test xs)
    where
      go : (b : Bool) → option_map see (find (λ y. test (see y)) xs) ≡ find test (map see xs) → option_map see (cond b (Some x) (find (λ y. test (see y)) xs)) ≡ cond b (Some (see x)) (find test (map see xs))
      go true k = refl
      go false k = k

  -- they are as many
  pub length-filter_seen : (test : Y → Bool) (xs : List X) → length (filter (λ x. test (see x)) xs) ≡ length (filter test (map see xs))
  length-filter_seen test xs = sym (length-map (filter (λ x. test (see x)) xs) see) ∙ ap length (filter-seen test xs)

  -- items without the one at a place
  pub remove-seen : (xs : List X) (i : ℕ) → map see (remove xs i) ≡ remove (map see xs) i
  remove-seen [] zero = refl
  remove-seen [] (suc i) = refl
  remove-seen (x ∷ xs) zero = refl
  remove-seen (x ∷ xs) (suc i) = ap (◌∷◌ (see x)) (remove-seen xs i)

  -- items with one more at a place
  pub insert-seen : (xs : List X) (i : ℕ) (y : X) → map see (insert xs i y) ≡ insert (map see xs) i (see y)
  insert-seen [] zero y = refl
  insert-seen [] (suc i) y = refl
  insert-seen (x ∷ xs) zero y = refl
  insert-seen (x ∷ xs) (suc i) y = ap (◌∷◌ (see x)) (insert-seen xs i y)

-- ---- outcomes

module _ {X : Type 0} (see : X → WorkOutcome) where
  -- numbers that rise from a low one are not below it
  places_above : (low : ℕ) (xs : List X) → RisesFrom low (numbers_of (map see xs)) → (j : ℕ) (d : X) → j < length xs → low ≤ (see (get_or xs j d)).number
  places_above low [] h j d l = absurd (omega arith)
  places_above low (x ∷ xs) h zero d l = h.0
  places_above low (x ∷ xs) h (suc j) d l =
      let later : (see x).number + 1 ≤ (see (get_or xs j d)).number = places_above ((see x).number + 1) xs h.1 j d (omega arith) in
      let from : low ≤ (see x).number = h.0 in
      omega (arith, later, from)

  -- an earlier place has a number no higher
  places_rise : (low : ℕ) (xs : List X) → RisesFrom low (numbers_of (map see xs)) → (i j : ℕ) (d : X) → i ≤ j → j < length xs → (see (get_or xs i d)).number ≤ (see (get_or xs j d)).number
  places_rise low [] h i j d le l = absurd (omega arith)
  places_rise low (x ∷ xs) h zero zero d le l = omega arith
  places_rise low (x ∷ xs) h zero (suc j) d le l =
      let later : (see x).number + 1 ≤ (see (get_or xs j d)).number = places_above ((see x).number + 1) xs h.1 j d (omega arith) in omega (arith, later)
  places_rise low (x ∷ xs) h (suc i) zero d le l = absurd (omega arith)
  places_rise low (x ∷ xs) h (suc i) (suc j) d le l = places_rise ((see x).number + 1) xs h.1 i j d (omega arith) (omega arith)

  -- by a number that none has, none is found
  pub none-found : (xs : List X) (o : ℕ) → All (λ x. (see x).number ≢ o) xs → outcome_among (map see xs) o ≡ None
  none-found [] o h = refl
  none-found (x ∷ xs) o h = outcome_among_later (see x) (map see xs) o (All-head (λ y. (see y).number ≢ o) x xs h) ∙ none-found xs o (All-tail (λ y. (see y).number ≢ o) x xs h)

  module _ (xs : List X) (rise : IsRising (numbers_of (map see xs))) (o : ℕ) where
    comparisons_rise : IsNonDecreasingBy (λ x. ordering_index (nat_cmp (see x).number o)) xs
    comparisons_rise i j d le lt = index_rises (see (get_or xs i d)).number (see (get_or xs j d)).number o (places_rise 0 xs rise i j d le lt)

    -- a binary search by number finds the place of the outcome of this number, where there is one
    pub searched : (r : Result ℕ ℕ) → IsSearchInRange r (length xs) → IsBinarySearchResult (λ x. nat_cmp (see x).number o) xs r →
        IfSome (result_ok r) (λ i. option_map see (slice_get xs i) ≡ outcome_among (map see xs) o) × IfNone (result_ok r) (outcome_among (map see xs) o ≡ None)
    searched (Ok i) range equal = (⊎_elim found (λ past. absurd (omega (arith, past.0, range))) (slice_get_cases xs i).1, tt)
      where
        found : (x : X) × (i < length xs) × (slice_get xs i ≡ Some x) × (get_or xs i x ≡ x) → option_map see (slice_get xs i) ≡ outcome_among (map see xs) o
        found q =
            let has : (see q.0).number ≡ o = subst (λ y. (see y).number ≡ o) q.3 (ranked (see (get_or xs i q.0)).number o _ (sym (equal q.0))) in
            let place : slice_get (map see xs) i ≡ Some (see q.0) = slice_get-map see xs i ∙ ap (option_map see) q.2 in
            ap (option_map see) q.2 ∙ (sym (found-place (map see xs) i (see q.0) rise place) ∙ ap (outcome_among (map see xs)) has)
    searched (Err i) range parted = (tt, none-found xs o (λ k d l. ⊎_elim (before k d) (behind k d l) (cases_lt k i)))
      where
        before : (k : ℕ) (d : X) → k < i → (see (get_or xs k d)).number ≢ o
        before k d lt e =
            let less : (see (get_or xs k d)).number < o = ranked (see (get_or xs k d)).number o _ (sym ((parted comparisons_rise).0 k d (omega arith) lt)) in
            omega (arith, less, e)

        behind : (k : ℕ) (d : X) → k < length xs → i ≤ k → (see (get_or xs k d)).number ≢ o
        behind k d l le e =
            let more : o < (see (get_or xs k d)).number = ranked (see (get_or xs k d)).number o _ (sym ((parted comparisons_rise).1 k d le l)) in
            omega (arith, more, e)

  -- what holds of each outcome holds of the one that an item is seen as
  pub All-item : (P : WorkOutcome → Type 0) (xs : List X) (i : ℕ) (x : X) → i < length xs → x ≡ get_or xs i x → All P (map see xs) → P (see x)
  All-item P xs i x l is h = All-at_place P (map see xs) i (see x) h (slice_get-map see xs i ∙ ap (option_map see) (slice_get_read xs (length xs) i x refl l is))

  -- an item of its number put at the place of an outcome is seen as this outcome being another now
  pub set-found : (xs : List X) (o i : ℕ) (x y : X) → IsRising (numbers_of (map see xs)) → i < length xs → x ≡ get_or xs i x →
      option_map see (slice_get xs i) ≡ outcome_among (map see xs) o → (see y).number ≡ o → map see (set xs i y) ≡ with_outcome (see y) (map see xs)
  set-found xs o i x y rise l is found same =
      let item : slice_get xs i ≡ Some x = slice_get_read xs (length xs) i x refl l is in
      let has : (see x).number ≡ o = found-number (map see xs) o (see x) (sym found ∙ ap (option_map see) item) in
      map-set see xs i y ∙ (set-place (λ z. see y) 0 (map see xs) i (see x) rise (slice_get-map see xs i ∙ ap (option_map see) item)
      ∙ ap (λ n. map (λ z. cond (z.number == n) (see y) z) (map see xs)) (has ∙ sym same))

  -- without the item of a number the outcomes are without the one of this number
  pub remove-found : (xs : List X) (o i : ℕ) (x : X) → IsRising (numbers_of (map see xs)) → slice_get xs i ≡ Some x → option_map see (slice_get xs i) ≡ outcome_among (map see xs) o →
      map see (remove xs i) ≡ filter (λ z. not (z.number == o)) (map see xs)
  remove-found xs o i x rise item found =
      let has : (see x).number ≡ o = found-number (map see xs) o (see x) (sym found ∙ ap (option_map see) item) in
      remove-seen see xs i ∙ (remove-place 0 (map see xs) i (see x) rise (slice_get-map see xs i ∙ ap (option_map see) item)
      ∙ ap (λ n. filter (λ z. not (z.number == n)) (map see xs)) has)
