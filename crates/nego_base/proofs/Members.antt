-- Laws on lists of numbers as sets.
use Rattle.std.specs.List.Sorted.{IsStrictlyIncreasing}
use Rattle.std.proofs.Common.{get_or, Some, add-one, add-zero, zero-add, ◌≡◌, ◌≢◌, ℕ, zero, suc, ◌+◌, ◌<◌, ◌≤◌, Bool, true, false, not, cond, ◌&&◌, ◌||◌, eqb, ltb, List, [], ◌∷◌, ◌++◌, length, ◌⊎◌, inl, inr, refl, sym, ap, subst, ◌∙◌, arith}
use Rattle.std.specs.Prelude.{All, slice_get, Contains}
use Rattle.std.specs.List.{list_any, list_all, filter, range_with_len}
use Rattle.std.proofs.lemmas.Bool.{or_left, or_right, both_ways, false_from_ne_true, or_parts, or_cases, and_parts, and_from, eqb-true, eq-eqb, ne_eqb, cases_Bool, cases_eq, cases_lt, cases_order, ltb-true, false≢true, true≢false}
use Rattle.std.proofs.lemmas.Bool.Decides.{nat_tests}
use Rattle.std.proofs.lemmas.List.Elements.{All-nil, All-cons, All-head, All-tail, All-filter, All-contains, All-contains_itself}
use Rattle.nego_base.specs.Members.{is_in, all_in, any_in, with_member, without_member, united, difference, RisesFrom, IsRising, IsRisingBelow}
use Rattle.nego_base.specs.Bits.{range-suc}
use Rattle.nego_base.proofs.BoolLaws.{same_tests}

-- ---- membership

pub is_in-append : (x : ℕ) (xs ys : List ℕ) → is_in x (xs ++ ys) ≡ (is_in x xs || is_in x ys)
is_in-append x [] ys = refl
is_in-append x (z ∷ xs) ys = let h = is_in-append x xs ys in grind (arith, nat_tests)

pub is_in-filter : (p : ℕ → Bool) (x : ℕ) (xs : List ℕ) → is_in x (filter p xs) ≡ (p x && is_in x xs)
is_in-filter p x [] = grind arith
is_in-filter p x (y ∷ ys) = let h = is_in-filter p x ys in grind (arith, nat_tests)

pub is_in-with : (x y : ℕ) (xs : List ℕ) → is_in x (with_member y xs) ≡ (eqb y x || is_in x xs)
is_in-with x y [] = refl
is_in-with x y (z ∷ zs) = let h = is_in-with x y zs in grind (arith, nat_tests)

pub is_in-without : (x y : ℕ) (xs : List ℕ) → is_in x (without_member y xs) ≡ (not (eqb x y) && is_in x xs)
is_in-without x y xs = is_in-filter (λ z. not (eqb z y)) x xs

-- the head is a member
-- the members of two sets' union
pub is_in-united : (x : ℕ) (xs ys : List ℕ) → is_in x (united xs ys) ≡ (is_in x xs || is_in x ys)
is_in-united x [] ys = refl
is_in-united x (y ∷ xs) ys = is_in-with x y (united xs ys) ∙ ap (λ t. eqb y x || t) (is_in-united x xs ys) ∙ moved (eqb y x) (is_in x xs) (is_in x ys)
  where
    moved : (s t u : Bool) → (s || (t || u)) ≡ ((s || t) || u)
    moved true t u = refl
    moved false t u = refl

-- the members of a set that aren't in another
pub is_in-difference : (x : ℕ) (xs ys : List ℕ) → is_in x (difference xs ys) ≡ (not (is_in x ys) && is_in x xs)
is_in-difference x xs ys = is_in-filter (λ y. not (is_in y ys)) x xs

pub is_in-head : (x : ℕ) (xs : List ℕ) → is_in x (x ∷ xs) ≡ true
is_in-head x xs = grind (arith, nat_tests)

-- a member of the tail is one of the list
pub is_in-tail : (x y : ℕ) (xs : List ℕ) → is_in x xs ≡ true → is_in x (y ∷ xs) ≡ true
is_in-tail x y xs h = grind (arith, nat_tests)

-- a member is the head or stands in the tail
pub is_in-cases : (x y : ℕ) (xs : List ℕ) → is_in x (y ∷ xs) ≡ true → (x ≡ y) ⊎ (is_in x xs ≡ true)
is_in-cases x y xs h = grind (arith, nat_tests)

-- a number is a member or isn't
pub in_or_not : (x : ℕ) (xs : List ℕ) → (is_in x xs ≡ true) ⊎ (is_in x xs ≡ true → ⊥)
in_or_not x xs = elim (cases_Bool (is_in x xs)) [ inl e ↦ inl e | inr e ↦ inr (λ k. true≢false (sym k ∙ e)) ]

-- what holds of each item holds of each member
pub All-member : (P : ℕ → Type 0) (x : ℕ) (xs : List ℕ) → All P xs → is_in x xs ≡ true → P x
All-member P x [] a h = absurd (false≢true h)
All-member P x (y ∷ ys) a h =
    elim (is_in-cases x y ys h) [ inl e ↦ subst P (sym e) (All-head P y ys a) | inr q ↦ All-member P x ys (All-tail P y ys a) q ]

-- what holds of each member holds of each item
pub All-members : (P : ℕ → Type 0) (xs : List ℕ) → ((x : ℕ) → is_in x xs ≡ true → P x) → All P xs
All-members P [] h = All-nil P
All-members P (y ∷ ys) h =
    All-cons P y ys (h y (is_in-head y ys)) (All-members P ys (λ x q. h x (is_in-tail x y ys q)))

-- nothing is a member of the empty list
pub is_in_none : (x : ℕ) (xs : List ℕ) → xs ≡ [] → is_in x xs ≡ true → ⊥
is_in_none x xs e h = let P : List ℕ → Type 0 = λ ys. is_in x ys ≡ true in false≢true (subst P e h)

-- the member of a list of one is that one
pub is_in_single : (x y : ℕ) → is_in x (y ∷ []) ≡ true → x ≡ y
is_in_single x y h = elim (is_in-cases x y [] h) [ inl e ↦ e | inr q ↦ absurd (false≢true q) ]

-- a list that isn't empty has a member
-- a list of one item at most has no two members
pub one_member : (xs : List ℕ) (x y : ℕ) → length xs ≤ 1 → is_in x xs ≡ true → is_in y xs ≡ true → x ≡ y
one_member [] x y few hx hy = absurd (is_in_none x [] refl hx)
one_member (z ∷ []) x y few hx hy = is_in_single x z hx ∙ sym (is_in_single y z hy)
one_member (z ∷ w ∷ zs) x y few hx hy = absurd (let no_more : ⊥ = omega (arith, few) in no_more)

-- a list of which two members differ has two items
pub two_members : (xs : List ℕ) (x y : ℕ) → x ≢ y → is_in x xs ≡ true → is_in y xs ≡ true → 2 ≤ length xs
two_members [] x y other hx hy = absurd (is_in_none x [] refl hx)
two_members (z ∷ []) x y other hx hy = absurd (other (is_in_single x z hx ∙ sym (is_in_single y z hy)))
two_members (z ∷ w ∷ zs) x y other hx hy = omega arith

-- a member that passes a test which some item passes
pub any_at : (p : ℕ → Bool) (xs : List ℕ) → list_any p xs ≡ true → (x : ℕ) × (is_in x xs ≡ true) × (p x ≡ true)
any_at p [] h = absurd (false≢true h)
any_at p (y ∷ ys) h =
    elim (or_cases (p y) (list_any p ys) h) [
      | inl t ↦ (y, is_in-head y ys, t)
      | inr q ↦ let k = any_at p ys q in (k.0, is_in-tail k.0 y ys k.1, k.2)
    ]

-- some item passes a test that a member passes
pub any_from : (p : ℕ → Bool) (xs : List ℕ) (x : ℕ) → is_in x xs ≡ true → p x ≡ true → list_any p xs ≡ true
any_from p [] x h t = absurd (false≢true h)
any_from p (y ∷ ys) x h t =
    let P : ℕ → Type 0 = λ z. p z ≡ true in
    elim (is_in-cases x y ys h) [
      | inl e ↦ or_left (p y) (list_any p ys) (subst P e t)
      | inr m ↦ or_right (p y) (list_any p ys) (any_from p ys x m t)
    ]

pub some_member : (xs : List ℕ) → xs ≢ [] → (x : ℕ) × (is_in x xs ≡ true)
some_member [] h = absurd (h refl)
some_member (x ∷ xs) h = (x, is_in-head x xs)

-- a test that each item passes is passed by each member
pub all_at : (p : ℕ → Bool) (xs : List ℕ) (x : ℕ) → list_all p xs ≡ true → is_in x xs ≡ true → p x ≡ true
all_at p [] x h k = absurd (false≢true k)
all_at p (y ∷ ys) x h k =
    let t = and_parts (p y) (list_all p ys) h in
    let P : ℕ → Type 0 = λ z. p z ≡ true in
    elim (is_in-cases x y ys k) [ inl e ↦ subst P (sym e) t.0 | inr m ↦ all_at p ys x t.1 m ]

-- a test that each member passes is passed by each item
pub all_from : (p : ℕ → Bool) (xs : List ℕ) → ((x : ℕ) → is_in x xs ≡ true → p x ≡ true) → list_all p xs ≡ true
all_from p [] h = refl
all_from p (x ∷ xs) h =
    and_from (p x) (list_all p xs) (h x (is_in-head x xs)) (all_from p xs (λ y k. h y (is_in-tail y x xs k)))

-- the members of a range
pub is_in-range : (x a n : ℕ) → is_in x (range_with_len a n) ≡ (not (ltb x a) && ltb x (a + n))
is_in-range x a zero = rw (add-zero a) (none x a)
  where
    none : (x a : ℕ) → false ≡ (not (ltb x a) && ltb x a)
    none x a = grind (arith, nat_tests)
is_in-range x a (suc n) =
    let h = is_in-range x (a + 1) n in
    let e : a + 1 + n ≡ a + suc n = omega arith in
    let P : ℕ → Type 0 = λ k. is_in x (range_with_len (a + 1) n) ≡ (not (ltb x (a + 1)) && ltb x k) in
    let t : is_in x (range_with_len (a + 1) n) ≡ (not (ltb x (a + 1)) && ltb x (a + suc n)) = subst P e h in
    grind (arith, nat_tests)

-- the members of a range from 0
pub is_in-range_zero : (x n : ℕ) → is_in x (range_with_len 0 n) ≡ ltb x n
is_in-range_zero x n = is_in-range x 0 n ∙ from_zero (omega arith)
  where
    from_zero : 0 + n ≡ n → (not (ltb x 0) && ltb x (0 + n)) ≡ ltb x n
    from_zero e = grind (arith, nat_tests)

-- ---- rising lists

pub rises-range : (a n : ℕ) → RisesFrom a (range_with_len a n)
rises-range a zero = tt
rises-range a (suc n) = (omega arith, rises-range (a + 1) n)

pub rises_more : (low high : ℕ) (xs : List ℕ) → low ≤ high → RisesFrom high xs → RisesFrom low xs
rises_more low high [] h r = tt
rises_more low high (x ∷ xs) h r = (omega arith, r.1)

-- no number below the low one is a member
pub not_in_below : (low x : ℕ) (xs : List ℕ) → RisesFrom low xs → x < low → is_in x xs ≡ false
not_in_below low x [] r h = refl
not_in_below low x (y ∷ ys) r h = let t = not_in_below (y + 1) x ys r.1 (omega arith) in grind (arith, nat_tests)

-- each member is at least the low number
pub member_from : (low x : ℕ) (xs : List ℕ) → RisesFrom low xs → is_in x xs ≡ true → low ≤ x
member_from low x xs r h =
    elim (cases_lt x low) [ inl q ↦ absurd (false≢true (sym (not_in_below low x xs r q) ∙ h)) | inr q ↦ q ]

pub rises-with : (low x : ℕ) (xs : List ℕ) → low ≤ x → RisesFrom low xs → RisesFrom low (with_member x xs)
rises-with low x [] h r = (h, tt)
rises-with low x (y ∷ ys) h r =
    elim (cases_order x y) [
      | inl e ↦ subst (RisesFrom low) (sym (with_same x y ys e)) r
      | inr (inl q) ↦ subst (RisesFrom low) (sym (with_front x y ys q)) (h, (omega arith, r.1))
      | inr (inr q) ↦ subst (RisesFrom low) (sym (with_behind x y ys q)) (r.0, rises-with (y + 1) x ys (omega arith) r.1)
    ]
  where
    with_same : (x y : ℕ) (ys : List ℕ) → x ≡ y → with_member x (y ∷ ys) ≡ y ∷ ys
    with_same x y ys e = grind (arith, nat_tests)

    with_front : (x y : ℕ) (ys : List ℕ) → x < y → with_member x (y ∷ ys) ≡ x ∷ y ∷ ys
    with_front x y ys q = grind (arith, nat_tests)

    with_behind : (x y : ℕ) (ys : List ℕ) → y < x → with_member x (y ∷ ys) ≡ y ∷ with_member x ys
    with_behind x y ys q = grind (arith, nat_tests)

pub rises-united : (low : ℕ) (xs ys : List ℕ) → RisesFrom low xs → RisesFrom low ys → RisesFrom low (united xs ys)
rises-united low [] ys r s = s
rises-united low (x ∷ xs) ys r s = rises-with low x (united xs ys) r.0 (rises-united low xs ys (rises_more low (x + 1) xs (omega (arith, r.0)) r.1) s)

pub rises-filter : (p : ℕ → Bool) (low : ℕ) (xs : List ℕ) → RisesFrom low xs → RisesFrom low (filter p xs)
rises-filter p low [] r = tt
rises-filter p low (x ∷ xs) r = kept (p x) (rises-filter p (x + 1) xs r.1)
  where
    kept : (b : Bool) → RisesFrom (x + 1) (filter p xs) → RisesFrom low (cond b (x ∷ filter p xs) (filter p xs))
    kept true h = (r.0, h)
    kept false h = rises_more low (x + 1) (filter p xs) (omega (arith, r.0)) h

pub rises-without : (x low : ℕ) (xs : List ℕ) → RisesFrom low xs → RisesFrom low (without_member x xs)
rises-without x low xs r = rises-filter (λ y. not (eqb y x)) low xs r

-- two rising lists with the same members are the same list
pub same_rising : (low : ℕ) (xs ys : List ℕ) → RisesFrom low xs → RisesFrom low ys → ((x : ℕ) → is_in x xs ≡ is_in x ys) → xs ≡ ys
same_rising low [] [] r s h = refl
same_rising low [] (y ∷ ys) r s h = absurd (false≢true (h y ∙ is_in-head y ys))
same_rising low (x ∷ xs) [] r s h = absurd (true≢false (sym (is_in-head x xs) ∙ h x))
same_rising low (x ∷ xs) (y ∷ ys) r s h =
    let e : x ≡ y = same_head x y xs ys r.1 s.1 (sym (h x) ∙ is_in-head x xs) (h y ∙ is_in-head y ys) in
    let P : ℕ → Type 0 = λ z. RisesFrom (z + 1) ys in
    let t : xs ≡ ys = same_rising (x + 1) xs ys r.1 (subst P (sym e) s.1) (λ z. same_tail x y z xs ys e r.1 s.1 (h z)) in
    cc
  where
    same_head : (x y : ℕ) (xs ys : List ℕ) → RisesFrom (x + 1) xs → RisesFrom (y + 1) ys → is_in x (y ∷ ys) ≡ true → is_in y (x ∷ xs) ≡ true → x ≡ y
    same_head x y xs ys r s p q =
        elim (is_in-cases x y ys p) [
          | inl e ↦ e
          | inr m ↦ elim (is_in-cases y x xs q) [
            | inl e ↦ sym e
            | inr n ↦ let a = member_from (y + 1) x ys s m in let b = member_from (x + 1) y xs r n in absurd (omega (arith, a, b))
          ]
        ]

    same_tail : (x y z : ℕ) (xs ys : List ℕ) → x ≡ y → RisesFrom (x + 1) xs → RisesFrom (y + 1) ys → is_in z (x ∷ xs) ≡ is_in z (y ∷ ys) → is_in z xs ≡ is_in z ys
    same_tail x y z xs ys e r s h =
        elim (cases_lt x z) [
          | inl q ↦ grind (arith, nat_tests)
          | inr q ↦ not_in_below (x + 1) z xs r (omega arith) ∙ sym (not_in_below (y + 1) z ys s (omega arith))
        ]

-- a rising list that has a member and no other is the list of that one
pub rising-single : (xs : List ℕ) (x : ℕ) → IsRising xs → is_in x xs ≡ true → ((y : ℕ) → is_in y xs ≡ true → y ≡ x) → xs ≡ x ∷ []
rising-single xs x r h same = same_rising 0 xs (x ∷ []) r (omega arith, tt) (λ y. same_tests (is_in y xs) (is_in y (x ∷ [])) (there y) (back y))
  where
    there : (y : ℕ) → is_in y xs ≡ true → is_in y (x ∷ []) ≡ true
    there y m = let P : ℕ → Type 0 = λ z. is_in z (x ∷ []) ≡ true in subst P (sym (same y m)) (is_in-head x [])

    back : (y : ℕ) → is_in y (x ∷ []) ≡ true → is_in y xs ≡ true
    back y m = let P : ℕ → Type 0 = λ z. is_in z xs ≡ true in subst P (sym (is_in_single y x m)) h

-- ---- a member put in or taken out

-- a member put in again changes nothing
pub with-member : (low x : ℕ) (xs : List ℕ) → RisesFrom low xs → is_in x xs ≡ true → with_member x xs ≡ xs
with-member low x xs r h =
    same_rising 0 (with_member x xs) xs (rises-with 0 x xs (omega arith) r0) r0 (λ z. is_in-with z x xs ∙ same z)
  where
    r0 : RisesFrom 0 xs
    r0 = rises_more 0 low xs (omega arith) r

    same : (z : ℕ) → (eqb x z || is_in z xs) ≡ is_in z xs
    same z = elim (cases_eq x z) [
      | inl e ↦ let P : ℕ → Type 0 = λ y. is_in y xs ≡ true in let t : is_in z xs ≡ true = subst P e h in grind (arith, nat_tests)
      | inr n ↦ grind (arith, nat_tests, ne_eqb x z n)
    ]

-- a number that is no member taken out changes nothing
pub without-other : (x : ℕ) (xs : List ℕ) → is_in x xs ≡ false → without_member x xs ≡ xs
without-other x [] h = refl
without-other x (y ∷ ys) h =
    let p = or_parts (eqb y x) (is_in x ys) h in
    let t = without-other x ys p.1 in
    rw (p.0, t) refl

-- the head of a rising list taken out leaves the tail
pub without-head : (x : ℕ) (xs : List ℕ) → RisesFrom (x + 1) xs → without_member x (x ∷ xs) ≡ xs
without-head x xs r =
    let e : eqb x x ≡ true = eq-eqb x x refl in
    rw e (without-other x xs (not_in_below (x + 1) x xs r (omega arith)))

pub length-with : (x : ℕ) (xs : List ℕ) → is_in x xs ≡ false → length (with_member x xs) ≡ length xs + 1
length-with x [] h = refl
length-with x (y ∷ ys) h =
    let p = or_parts (eqb y x) (is_in x ys) h in
    let t = length-with x ys p.1 in
    grind (arith, nat_tests)

pub length-without : (low x : ℕ) (xs : List ℕ) → RisesFrom low xs → is_in x xs ≡ true → length (without_member x xs) + 1 ≡ length xs
length-without low x [] r h = absurd (false≢true h)
length-without low x (y ∷ ys) r h = by_head (length-without (y + 1) x ys r.1) (cases_eq y x)
  where
    by_head : (is_in x ys ≡ true → length (without_member x ys) + 1 ≡ length ys) → (y ≡ x) ⊎ (y ≡ x → ⊥) → length (without_member x (y ∷ ys)) + 1 ≡ length (y ∷ ys)
    by_head rest (inl e) =
        let P : ℕ → Type 0 = λ z. length (without_member z (y ∷ ys)) + 1 ≡ length (y ∷ ys) in
        subst P e (rw (without-head y ys r.1) (add-one (length ys)))
    by_head rest (inr n) =
        let e : eqb y x ≡ false = ne_eqb y x n in
        let m : is_in x ys ≡ true = elim (is_in-cases x y ys h) [ inl q ↦ absurd (n (sym q)) | inr q ↦ q ] in
        let t = rest m in
        rw e (omega (arith, t))

-- a number put in and taken out again
pub without-with : (low x : ℕ) (xs : List ℕ) → RisesFrom low xs → is_in x xs ≡ false → without_member x (with_member x xs) ≡ xs
without-with low x xs r h =
    same_rising 0 (without_member x (with_member x xs)) xs (rises-without x 0 (with_member x xs) (rises-with 0 x xs (omega arith) r0)) r0 same
  where
    r0 : RisesFrom 0 xs
    r0 = rises_more 0 low xs (omega arith) r

    same : (z : ℕ) → is_in z (without_member x (with_member x xs)) ≡ is_in z xs
    same z = is_in-without z x (with_member x xs) ∙ ap (λ b. not (eqb z x) && b) (is_in-with z x xs) ∙ at_number (cases_eq z x)
      where
        at_number : (z ≡ x) ⊎ (z ≡ x → ⊥) → (not (eqb z x) && (eqb x z || is_in z xs)) ≡ is_in z xs
        at_number (inl e) = let P : ℕ → Type 0 = λ y. is_in y xs ≡ false in let t : is_in z xs ≡ false = subst P (sym e) h in rw (eq-eqb z x e, t) refl
        at_number (inr n) = rw (ne_eqb z x n, ne_eqb x z (λ e. n (sym e))) refl

-- a member taken out and put in again
pub with-without : (low x : ℕ) (xs : List ℕ) → RisesFrom low xs → is_in x xs ≡ true → with_member x (without_member x xs) ≡ xs
with-without low x xs r h =
    same_rising 0 (with_member x (without_member x xs)) xs (rises-with 0 x (without_member x xs) (omega arith) (rises-without x 0 xs r0)) r0 same
  where
    r0 : RisesFrom 0 xs
    r0 = rises_more 0 low xs (omega arith) r

    same : (z : ℕ) → is_in z (with_member x (without_member x xs)) ≡ is_in z xs
    same z = is_in-with z x (without_member x xs) ∙ ap (λ b. eqb x z || b) (is_in-without z x xs) ∙ at_number (cases_eq z x)
      where
        at_number : (z ≡ x) ⊎ (z ≡ x → ⊥) → (eqb x z || (not (eqb z x) && is_in z xs)) ≡ is_in z xs
        at_number (inl e) = let P : ℕ → Type 0 = λ y. is_in y xs ≡ true in let t : is_in z xs ≡ true = subst P (sym e) h in rw (eq-eqb x z (sym e), t) refl
        at_number (inr n) = rw (ne_eqb z x n, ne_eqb x z (λ e. n (sym e))) refl

-- a number above all others goes to the end
pub with-last : (x : ℕ) (xs : List ℕ) → All (λ y. y < x) xs → with_member x xs ≡ xs ++ x ∷ []
with-last x [] a = refl
with-last x (y ∷ ys) a =
    let q : y < x = All-head (λ z. z < x) y ys a in
    let t = with-last x ys (All-tail (λ z. z < x) y ys a) in
    grind (arith, nat_tests)

-- ---- one list in another

-- a member of the one is a member of the other
pub all_in-member : (x : ℕ) (xs ys : List ℕ) → all_in xs ys ≡ true → is_in x xs ≡ true → is_in x ys ≡ true
all_in-member x [] ys a h = absurd (false≢true h)
all_in-member x (z ∷ xs) ys a h =
    let p = and_parts (is_in z ys) (all_in xs ys) a in
    let P : ℕ → Type 0 = λ w. is_in w ys ≡ true in
    elim (is_in-cases x z xs h) [ inl e ↦ subst P (sym e) p.0 | inr m ↦ all_in-member x xs ys p.1 m ]

pub all_in-members : (xs ys : List ℕ) → ((x : ℕ) → is_in x xs ≡ true → is_in x ys ≡ true) → all_in xs ys ≡ true
all_in-members [] ys h = refl
all_in-members (z ∷ xs) ys h =
    and_from (is_in z ys) (all_in xs ys) (h z (is_in-head z xs)) (all_in-members xs ys (λ x m. h x (is_in-tail x z xs m)))

-- some number is a member of both
pub any_in-member : (xs ys : List ℕ) → any_in xs ys ≡ true → (x : ℕ) × (is_in x xs ≡ true) × (is_in x ys ≡ true)
any_in-member [] ys a = absurd (false≢true a)
any_in-member (z ∷ xs) ys a =
    elim (or_cases (is_in z ys) (any_in xs ys) a) [
      | inl m ↦ (z, is_in-head z xs, m)
      | inr q ↦ let t = any_in-member xs ys q in (t.0, is_in-tail t.0 z xs t.1, t.2)
    ]

pub any_in-members : (x : ℕ) (xs ys : List ℕ) → is_in x xs ≡ true → is_in x ys ≡ true → any_in xs ys ≡ true
any_in-members x [] ys h k = absurd (false≢true h)
any_in-members x (z ∷ xs) ys h k =
    let P : ℕ → Type 0 = λ w. is_in w ys ≡ true in
    elim (is_in-cases x z xs h) [
      | inl e ↦ or_left (is_in z ys) (any_in xs ys) (subst P e k)
      | inr m ↦ or_right (is_in z ys) (any_in xs ys) (any_in-members x xs ys m k)
    ]

-- where no number is a member of both, a member of the one is none of the other
pub any_in-none : (x : ℕ) (xs ys : List ℕ) → any_in xs ys ≡ false → is_in x xs ≡ true → is_in x ys ≡ false
any_in-none x xs ys a h = false_from_ne_true (is_in x ys) (λ k. false≢true (sym a ∙ any_in-members x xs ys h k))

-- a rising list in another and the other in it are the same list
pub same_all_in : (low : ℕ) (xs ys : List ℕ) → RisesFrom low xs → RisesFrom low ys → all_in xs ys ≡ true → all_in ys xs ≡ true → xs ≡ ys
same_all_in low xs ys r s a b =
    same_rising low xs ys r s (λ x. same_tests (is_in x xs) (is_in x ys) (all_in-member x xs ys a) (all_in-member x ys xs b))

-- a rising list in another is no longer
pub length-all_in : (low : ℕ) (xs ys : List ℕ) → RisesFrom low xs → RisesFrom low ys → all_in xs ys ≡ true → length xs ≤ length ys
length-all_in low [] ys r s a = omega arith
length-all_in low (x ∷ xs) ys r s a =
    let m : is_in x ys ≡ true = all_in-member x (x ∷ xs) ys a (is_in-head x xs) in
    let rest : all_in xs (without_member x ys) ≡ true = all_in-members xs (without_member x ys) (λ z q. kept z q (all_in-member z (x ∷ xs) ys a (is_in-tail z x xs q))) in
    let above : RisesFrom low xs = rises_more low (x + 1) xs (omega (arith, r.0)) r.1 in
    let n = length-without low x ys s m in
    let k = length-all_in low xs (without_member x ys) above (rises-without x low ys s) rest in
    omega (arith, n, k)
  where
    kept : (z : ℕ) → is_in z xs ≡ true → is_in z ys ≡ true → is_in z (without_member x ys) ≡ true
    kept z q m =
        let from = member_from (x + 1) z xs r.1 q in
        let n : eqb z x ≡ false = ne_eqb z x (λ e. omega (arith, from, e)) in
        is_in-without z x ys ∙ rw (n, m) refl

-- ---- the least member and the number of members

-- no member of a rising list is less than its head
pub head-least : (x y : ℕ) (xs : List ℕ) → RisesFrom (x + 1) xs → is_in y (x ∷ xs) ≡ true → x ≤ y
head-least x y xs r h = member_from x y (x ∷ xs) (omega arith, r) h

-- a member of a rising list of which none is less is its head
pub head_from_least : (low x : ℕ) (xs : List ℕ) → RisesFrom low xs → is_in x xs ≡ true → ((y : ℕ) → y < x → is_in y xs ≡ false) → slice_get xs 0 ≡ Some x
head_from_least low x [] r h least = absurd (false≢true h)
head_from_least low x (z ∷ zs) r h least = ap Some (elim (cases_order z x) [
  | inl e ↦ e
  | inr (inl q) ↦ absurd (true≢false (sym (is_in-head z zs) ∙ least z q))
  | inr (inr q) ↦ absurd (both_ways (is_in x (z ∷ zs)) (not_in_below z x (z ∷ zs) (omega arith, r.1) q) h)
])

-- a list without members is empty
pub nil_from_none : (xs : List ℕ) → ((x : ℕ) → is_in x xs ≡ false) → xs ≡ []
nil_from_none [] h = refl
nil_from_none (x ∷ xs) h = absurd (both_ways (is_in x (x ∷ xs)) (h x) (is_in-head x xs))

-- a rising list below the width is no longer than the width
pub length-rising : (low width : ℕ) (xs : List ℕ) → RisesFrom low xs → All (λ x. x < width) xs → low ≤ width → length xs + low ≤ width
length-rising low width [] r a h = omega arith
length-rising low width (x ∷ xs) r a h =
    let here : x < width = All-head (λ z. z < width) x xs a in
    let t = length-rising (x + 1) width xs r.1 (All-tail (λ z. z < width) x xs a) (omega arith) in
    omega (arith, t, r.0)

-- ---- rising lists below a width

pub empty-rises : (width : ℕ) → IsRisingBelow width []
empty-rises width = record { rising = tt; below = All-nil (λ x. x < width) }

pub with-rises : (width x : ℕ) (xs : List ℕ) → x < width → IsRisingBelow width xs → IsRisingBelow width (with_member x xs)
with-rises width x xs h s = record {
  rising = rises-with 0 x xs (omega arith) s.rising;
  below = All-members (λ y. y < width) (with_member x xs) (λ y m. put y (or_cases (eqb x y) (is_in y xs) (sym (is_in-with y x xs) ∙ m)));
}
  where
    put : (y : ℕ) → (eqb x y ≡ true) ⊎ (is_in y xs ≡ true) → y < width
    put y (inl e) = let q = eqb-true x y e in omega arith
    put y (inr m) = All-member (λ z. z < width) y xs s.below m

pub without-rises : (width x : ℕ) (xs : List ℕ) → IsRisingBelow width xs → IsRisingBelow width (without_member x xs)
without-rises width x xs s = record {
  rising = rises-without x 0 xs s.rising;
  below = All-filter (λ y. not (eqb y x)) (λ y. y < width) xs s.below;
}

pub range-rises : (width n : ℕ) → n ≤ width → IsRisingBelow width (range_with_len 0 n)
range-rises width n h = record {
  rising = rises-range 0 n;
  below = All-members (λ x. x < width) (range_with_len 0 n) (λ x m. let q = ltb-true x n (sym (is_in-range_zero x n) ∙ m) in omega (arith, q));
}

-- the numbers below a bound, and the next
pub with-range : (n : ℕ) → with_member n (range_with_len 0 n) ≡ range_with_len 0 (n + 1)
with-range n =
    with-last n (range_with_len 0 n) (range-rises n n (omega arith)).below
    ∙ sym (ap (λ k. range_with_len 0 k) (add-one n) ∙ range-suc 0 n ∙ ap (λ k. range_with_len 0 n ++ k ∷ []) (zero-add n))

pub united-rises : (width : ℕ) (xs ys : List ℕ) → IsRisingBelow width xs → IsRisingBelow width ys → IsRisingBelow width (united xs ys)
united-rises width xs ys r s = record {
  rising = rises-united 0 xs ys r.rising s.rising;
  below = All-members (λ x. x < width) (united xs ys) (λ x m. of_one x (or_cases (is_in x xs) (is_in x ys) (sym (is_in-united x xs ys) ∙ m)));
}
  where
    of_one : (x : ℕ) → (is_in x xs ≡ true) ⊎ (is_in x ys ≡ true) → x < width
    of_one x (inl m) = All-member (λ y. y < width) x xs r.below m
    of_one x (inr m) = All-member (λ y. y < width) x ys s.below m

pub difference-rises : (width : ℕ) (xs ys : List ℕ) → IsRisingBelow width xs → IsRisingBelow width (difference xs ys)
difference-rises width xs ys r = record {
  rising = rises-filter (λ x. not (is_in x ys)) 0 xs r.rising;
  below = All-filter (λ x. not (is_in x ys)) (λ x. x < width) xs r.below;
}

pub member_below : (width x : ℕ) (xs : List ℕ) → IsRisingBelow width xs → is_in x xs ≡ true → x < width
member_below width x xs s m = All-member (λ y. y < width) x xs s.below m

-- two rising lists below a width that have the same members below it are the same list
pub same_below : (width : ℕ) (xs ys : List ℕ) → IsRisingBelow width xs → IsRisingBelow width ys → ((x : ℕ) → x < width → is_in x xs ≡ is_in x ys) → xs ≡ ys
same_below width xs ys r s h = same_rising 0 xs ys r.rising s.rising (λ x. at_number x (cases_lt x width))
  where
    at_number : (x : ℕ) → (x < width) ⊎ (width ≤ x) → is_in x xs ≡ is_in x ys
    at_number x (inl q) = h x q
    at_number x (inr q) = none x xs r q ∙ sym (none x ys s q)
      where
        none : (x : ℕ) (zs : List ℕ) → IsRisingBelow width zs → width ≤ x → is_in x zs ≡ false
        none x zs t q = false_from_ne_true (is_in x zs) (λ m. let p = member_below width x zs t m in absurd (omega (arith, p, q)))

-- a set of numbers below a width has no more members than the width
pub length-below : (width : ℕ) (xs : List ℕ) → IsRisingBelow width xs → length xs ≤ width
length-below width xs s = let t = length-rising 0 width xs s.rising s.below (omega arith) in omega (arith, t)

-- a rising list is its first number and the others
pub first_and_rest : (width x : ℕ) (xs : List ℕ) → IsRisingBelow width xs → slice_get xs 0 ≡ Some x → xs ≡ x ∷ without_member x xs
first_and_rest width x [] s e = cc
first_and_rest width x (y ∷ ys) s e = at_head (same_item e)
  where
    same_item : slice_get (y ∷ ys) 0 ≡ Some x → y ≡ x
    same_item q = cc

    at_head : y ≡ x → y ∷ ys ≡ x ∷ without_member x (y ∷ ys)
    at_head q =
        let P : ℕ → Type 0 = λ z. y ∷ ys ≡ z ∷ without_member z (y ∷ ys) in
        subst P q (ap (λ zs. y ∷ zs) (sym (without-head y ys s.rising.1)))

-- ---- in std's words

pub Contains-member : (x : ℕ) (xs : List ℕ) → is_in x xs ≡ true → Contains xs x
Contains-member x xs h = All-member (Contains xs) x xs (All-contains_itself xs) h

pub member-Contains : (x : ℕ) (xs : List ℕ) → Contains xs x → is_in x xs ≡ true
member-Contains x xs c = All-contains (λ y. is_in y xs ≡ true) xs x (All-members (λ y. is_in y xs ≡ true) xs (λ y m. m)) c

pub increasing_from_rising : (low : ℕ) (xs : List ℕ) → RisesFrom low xs → IsStrictlyIncreasing xs
increasing_from_rising low xs r k h = steps low xs k r h
  where
    steps : (low : ℕ) (xs : List ℕ) (k : ℕ) → RisesFrom low xs → k + 1 < length xs → get_or xs k 0 < get_or xs (k + 1) 0
    steps low [] k r h = absurd (omega arith)
    steps low (x ∷ []) k r h = absurd (omega arith)
    steps low (x ∷ y ∷ ys) zero r h = omega (arith, r.1.0)
    steps low (x ∷ y ∷ ys) (suc k) r h =
        let P : ℕ → Type 0 = λ n. get_or (y ∷ ys) k 0 < get_or (x ∷ y ∷ ys) n 0 in
        let e : suc (k + 1) ≡ suc k + 1 = omega arith in
        subst P e (steps (x + 1) (y ∷ ys) k r.1 (omega arith))

pub rising_from_increasing : (xs : List ℕ) → IsStrictlyIncreasing xs → IsRising xs
rising_from_increasing [] h = tt
rising_from_increasing (x ∷ xs) h = (omega arith, rest x xs h)
  where
    rest : (x : ℕ) (xs : List ℕ) → IsStrictlyIncreasing (x ∷ xs) → RisesFrom (x + 1) xs
    rest x [] h = tt
    rest x (y ∷ ys) h =
        let here : x < y = h 0 (omega arith) in
        (omega arith, rest y ys (λ k q. next k q))
      where
        next : (k : ℕ) → k + 1 < length (y ∷ ys) → get_or (y ∷ ys) k 0 < get_or (y ∷ ys) (k + 1) 0
        next k q =
            let P : ℕ → Type 0 = λ n. get_or (x ∷ y ∷ ys) n 0 < get_or (x ∷ y ∷ ys) (n + 1) 0 in
            let Q : ℕ → Type 0 = λ n. get_or (y ∷ ys) k 0 < get_or (x ∷ y ∷ ys) n 0 in
            let e : suc k + 1 ≡ suc (k + 1) = omega arith in
            subst Q e (h (suc k) (omega arith))

-- a list whose numbers are all below those of a rising list, before it
pub rises-append : (low high : ℕ) (xs ys : List ℕ) → low ≤ high → RisesFrom low xs → All (λ x. x < high) xs → RisesFrom high ys → RisesFrom low (xs ++ ys)
rises-append low high [] ys h r a s = rises_more low high ys h s
rises-append low high (x ∷ xs) ys h r a s =
    let here : x < high = All-head (λ z. z < high) x xs a in
    (r.0, rises-append (x + 1) high xs ys (omega arith) r.1 (All-tail (λ z. z < high) x xs a) s)

-- a number above all others at the end
pub rises-push : (low x : ℕ) (xs : List ℕ) → low ≤ x → RisesFrom low xs → All (λ y. y < x) xs → RisesFrom low (xs ++ x ∷ [])
rises-push low x xs h r a = rises-append low x xs (x ∷ []) h r a (omega arith, tt)
