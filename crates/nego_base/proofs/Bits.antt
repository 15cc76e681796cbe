-- Laws on the members of a word of bits, once for all widths.
use Rattle.std.proofs.Common.{◌≡◌, ℕ, zero, suc, ◌+◌, ◌-◌, ◌*◌, ◌/◌, ◌%◌, ◌^◌, ◌<◌, ◌≤◌, Bool, true, false, not, ◌&&◌, ◌||◌, eqb, ltb, [], ◌∷◌, length, ◌⊎◌, inl, inr, Some, refl, sym, ap, subst, ◌∙◌, arith}
use Rattle.std.specs.Prelude.{if◌then◌else◌, slice_get, bit_and, bit_or, count_ones, min, max}
use Rattle.std.specs.List.{range_with_len}
use Rattle.std.specs.Int.{bit_at, bit_not, w64, trailing_zeros}
use Rattle.std.proofs.lemmas.Bool.{eqb-true, eqb-false, eq-eqb, ne_eqb, cases_eq, cases_lt, cases_Bool, lt-ltb, le-ltb, ltb-true, false≢true, and_parts, and_from}
use Rattle.std.proofs.lemmas.Bool.Decides.{nat_tests, same_from_decides, Decides-like, Decides-eqb}
use Rattle.std.specs.Cmp.Lexicographic.{pointwise, bytes_decides}
use Rattle.std.proofs.lemmas.List.{length-append}
use Rattle.std.proofs.lemmas.Nat.{and_le_l, or_lt, ones_cat, ones_le_self, pow_pos}
use Rattle.std.specs.Int.Count.{ones-ones}
use Rattle.std.proofs.Math.Nat.{mod-eq_of_lt, lt_of_le_of_lt, lt_of_lt_of_le, mod-lt, mod-le, add_comm}
use Rattle.std.proofs.Math.Pow.{pow_mono, pow-lt, pow-sub-lt}
use Rattle.std.proofs.lemmas.Nat.Bits.{bit_at-lt, bit_at_and, bit_at_or, bit_at_not, bit_at_ones, bit_at_ones_above, bit_at_above, bit_at-zero, shr_and_one, bit_at-trailing_zeros, bit_at_set_same, bit_at_set_other, bit_at_clear_same, bit_at_clear_other}
use Rattle.nego_base.proofs.BoolLaws.{both_false}
use Rattle.nego_base.specs.Members.{is_in, all_in, any_in, with_member, without_member, united, difference, IsRising, IsRisingBelow}
use Rattle.nego_base.specs.Bits.{FitsWidth, members, members-suc, members-zero, mod-suc_bit, word_of, word_of-members, word_of-nil}
use Rattle.nego_base.proofs.Members.{is_in-united, is_in-difference, united-rises, difference-rises, range-rises, is_in-range_zero, is_in-range, rises-range, is_in-filter, is_in-with, is_in-without, rises-filter, All-members, same_below, with-rises, without-rises, all_in-member, all_in-members, any_in-member, any_in-none, head_from_least, first_and_rest, nil_from_none}

-- ---- tests

never : (b : Bool) → (b && false) ≡ false
never true = refl
never false = refl

and_implied : (s t : Bool) → (s ≡ true → t ≡ true) → (s && t) ≡ s
and_implied true t h = h refl
and_implied false t h = refl

-- ---- the members

-- a number below the width is a member where its bit is set
pub is_in-members : (width x n : ℕ) → is_in x (members width n) ≡ (ltb x width && eqb (bit_at n x) 1)
unfolding members
is_in-members width x n =
    is_in-filter (λ k. eqb (bit_at n k) 1) x (range_with_len 0 width)
    ∙ ap (λ b. eqb (bit_at n x) 1 && b) (is_in-range x 0 width ∙ from_zero)
    ∙ turned (eqb (bit_at n x) 1) (ltb x width)
  where
    from_zero : (not (ltb x 0) && ltb x (0 + width)) ≡ ltb x width
    from_zero = grind (arith, nat_tests)

    turned : (s t : Bool) → (s && t) ≡ (t && s)
    turned true true = refl
    turned true false = refl
    turned false true = refl
    turned false false = refl

rises-members : (width n : ℕ) → IsRising (members width n)
unfolding members
rises-members width n = rises-filter (λ k. eqb (bit_at n k) 1) 0 (range_with_len 0 width) (rises-range 0 width)

pub members-rise : (width n : ℕ) → IsRisingBelow width (members width n)
members-rise width n = record { rising = rises-members width n; below = All-members (λ x. x < width) (members width n) (λ x m. ltb-true x width (and_parts (ltb x width) (eqb (bit_at n x) 1) (sym (is_in-members width x n) ∙ m)).0) }

-- a number below the width is a member as its bit says
pub is_in_bit : (width x n : ℕ) → x < width → is_in x (members width n) ≡ eqb (bit_at n x) 1
is_in_bit width x n h = is_in-members width x n ∙ ap (λ b. b && eqb (bit_at n x) 1) (lt-ltb x width h)

-- the test `n >> x & 1 == 1`
pub members-has : (width x n : ℕ) → x < width → eqb (bit_and (n / 2 ^ x) 1) 1 ≡ is_in x (members width n)
members-has width x n h = ap (λ b. eqb b 1) (shr_and_one n x) ∙ sym (is_in_bit width x n h)

pub members-none : (width : ℕ) → members width 0 ≡ []
members-none width = nil_from_none (members width 0) (λ x. is_in-members width x 0 ∙ ap (λ b. ltb x width && eqb b 1) (bit_at-zero x) ∙ never (ltb x width))

-- ---- one number more or less, in a word of 64 bits

-- `n | 1 << x`
pub members-with : (width x n : ℕ) → width ≤ 64 → x < width → members width (bit_or n (1 * 2 ^ x % 2 ^ 64)) ≡ with_member x (members width n)
members-with width x n w h =
    let m = bit_or n (1 * 2 ^ x % 2 ^ 64) in
    same_below width (members width m) (with_member x (members width n)) (members-rise width m) (with-rises width x (members width n) h (members-rise width n))
    (λ y q. is_in_bit width y m q ∙ at_number y q (cases_eq y x) ∙ sym (is_in-with y x (members width n)))
  where
    inside : x < 64
    inside = lt_of_lt_of_le h w

    at_number : (y : ℕ) → y < width → (y ≡ x) ⊎ (y ≡ x → ⊥) → eqb (bit_at (bit_or n (1 * 2 ^ x % 2 ^ 64)) y) 1 ≡ (eqb x y || is_in y (members width n))
    at_number y q (inl e) = subst (λ z. eqb (bit_at (bit_or n (1 * 2 ^ x % 2 ^ 64)) z) 1 ≡ (eqb x z || is_in z (members width n))) (sym e) (rw (bit_at_set_same w64 n x inside, eq-eqb x x refl) refl)
    at_number y q (inr d) = rw (bit_at_set_other w64 n x inside y d, ne_eqb x y (λ e. d (sym e))) (sym (is_in_bit width y n q))

-- `n | 1 << x` is below 2 ^ width
pub with_fits : (width x n : ℕ) → FitsWidth width n → x < width → FitsWidth width (bit_or n (1 * 2 ^ x % 2 ^ 64))
with_fits width x n h q = record {
  narrow = h.narrow;
  fits = or_lt width n (1 * 2 ^ x % 2 ^ 64) h.fits (lt_of_le_of_lt (mod-le (1 * 2 ^ x) (2 ^ 64)) (let low : 2 ^ x < 2 ^ width = pow-lt q in omega (arith, low)));
}

-- `n & !(1 << x)`
pub members-without : (width x n : ℕ) → width ≤ 64 → x < width → members width (bit_and n (bit_not w64 (1 * 2 ^ x % 2 ^ 64))) ≡ without_member x (members width n)
members-without width x n w h =
    let m = bit_and n (bit_not w64 (1 * 2 ^ x % 2 ^ 64)) in
    same_below width (members width m) (without_member x (members width n)) (members-rise width m) (without-rises width x (members width n) (members-rise width n))
    (λ y q. is_in_bit width y m q ∙ at_number y q (cases_eq y x) ∙ sym (is_in-without y x (members width n)))
  where
    inside : x < 64
    inside = lt_of_lt_of_le h w

    at_number : (y : ℕ) → y < width → (y ≡ x) ⊎ (y ≡ x → ⊥) → eqb (bit_at (bit_and n (bit_not w64 (1 * 2 ^ x % 2 ^ 64))) y) 1 ≡ (not (eqb y x) && is_in y (members width n))
    at_number y q (inl e) = subst (λ z. eqb (bit_at (bit_and n (bit_not w64 (1 * 2 ^ x % 2 ^ 64))) z) 1 ≡ (not (eqb z x) && is_in z (members width n))) (sym e) (rw (bit_at_clear_same w64 n x inside, eq-eqb x x refl) refl)
    at_number y q (inr d) = rw (bit_at_clear_other w64 n x inside y (lt_of_lt_of_le q w) d, ne_eqb y x d) (sym (is_in_bit width y n q))

-- `2 ^ n - 1`, the word whose n lowest bits are set
pub members-below : (width n : ℕ) → n ≤ width → members width (2 ^ n - 1) ≡ range_with_len 0 n
members-below width n h =
    same_below width (members width (2 ^ n - 1)) (range_with_len 0 n) (members-rise width (2 ^ n - 1)) (range-rises width n h)
    (λ y q. is_in_bit width y (2 ^ n - 1) q ∙ at_number y (cases_lt y n) ∙ sym (is_in-range_zero y n))
  where
    at_number : (y : ℕ) → (y < n) ⊎ (n ≤ y) → eqb (bit_at (2 ^ n - 1) y) 1 ≡ ltb y n
    at_number y (inl q) = rw (bit_at_ones n y q, lt-ltb y n q) refl
    at_number y (inr q) = rw (bit_at_ones_above n y q, le-ltb y n q) refl

-- ---- two words

-- words below 2 ^ width with the same members are the same word
pub same_from_members : (width a b : ℕ) → a < 2 ^ width → b < 2 ^ width → members width a ≡ members width b → a ≡ b
same_from_members width a b p q e = sym (word_of-members width a p) ∙ ap word_of e ∙ word_of-members width b q

-- the members of `a & b` are those of both
pub is_in-members_and : (width x a b : ℕ) → is_in x (members width (bit_and a b)) ≡ (is_in x (members width a) && is_in x (members width b))
is_in-members_and width x a b =
    is_in-members width x (bit_and a b) ∙ ap (λ n. ltb x width && eqb n 1) (bit_at_and a b x)
    ∙ both (ltb x width) (bit_at a x) (bit_at b x) (bit_at-lt a x) (bit_at-lt b x)
    ∙ ap (λ t. t && (ltb x width && eqb (bit_at b x) 1)) (sym (is_in-members width x a))
    ∙ ap (λ t. is_in x (members width a) && t) (sym (is_in-members width x b))
  where
    both : (h : Bool) (s t : ℕ) → s < 2 → t < 2 → (h && eqb (min s t) 1) ≡ ((h && eqb s 1) && (h && eqb t 1))
    both h s t p q = grind (arith, nat_tests)

-- `a | b`
pub members-union : (width a b : ℕ) → members width (bit_or a b) ≡ united (members width a) (members width b)
members-union width a b =
    same_below width (members width (bit_or a b)) (united (members width a) (members width b)) (members-rise width (bit_or a b))
    (united-rises width (members width a) (members width b) (members-rise width a) (members-rise width b))
    (λ y q. is_in_bit width y (bit_or a b) q ∙ ap (λ n. eqb n 1) (bit_at_or a b y) ∙ either (bit_at a y) (bit_at b y) (bit_at-lt a y) (bit_at-lt b y)
    ∙ ap (λ t. t || eqb (bit_at b y) 1) (sym (is_in_bit width y a q)) ∙ ap (λ t. is_in y (members width a) || t) (sym (is_in_bit width y b q))
    ∙ sym (is_in-united y (members width a) (members width b)))
  where
    either : (s t : ℕ) → s < 2 → t < 2 → eqb (max s t) 1 ≡ (eqb s 1 || eqb t 1)
    either s t p q = grind (arith, nat_tests)

-- `a & !b`
pub members-difference : (width a b : ℕ) → width ≤ 64 → b < 2 ^ 64 → members width (bit_and a (bit_not w64 b)) ≡ difference (members width a) (members width b)
members-difference width a b w h =
    let m = bit_and a (bit_not w64 b) in
    same_below width (members width m) (difference (members width a) (members width b)) (members-rise width m)
    (difference-rises width (members width a) (members width b) (members-rise width a))
    (λ y q. is_in_bit width y m q ∙ ap (λ n. eqb n 1) (bit_at_and a (bit_not w64 b) y ∙ ap (min (bit_at a y)) (bit_at_not w64 b y h (lt_of_lt_of_le q w)))
    ∙ one_only (bit_at a y) (bit_at b y) (bit_at-lt a y) (bit_at-lt b y)
    ∙ ap (λ t. not (eqb (bit_at b y) 1) && t) (sym (is_in_bit width y a q)) ∙ ap (λ t. not t && is_in y (members width a)) (sym (is_in_bit width y b q))
    ∙ sym (is_in-difference y (members width a) (members width b)))
  where
    one_only : (s t : ℕ) → s < 2 → t < 2 → eqb (min s (1 - t)) 1 ≡ (not (eqb t 1) && eqb s 1)
    one_only s t p q = grind (arith, nat_tests)

-- the word whose n lowest bits are set is below 2 ^ width
pub low_fits : (width n : ℕ) → width ≤ 64 → n ≤ width → FitsWidth width (2 ^ n - 1)
low_fits width n w h = record { narrow = w; fits = lt_of_lt_of_le (pow-sub-lt n (omega arith)) (pow_mono h) }

-- `a & b` is below 2 ^ width
pub and_fits : (width a b : ℕ) → FitsWidth width a → FitsWidth width (bit_and a b)
and_fits width a b h = record { narrow = h.narrow; fits = lt_of_le_of_lt (and_le_l a b) h.fits }

-- `a | b` is below 2 ^ width
pub or_fits : (width a b : ℕ) → FitsWidth width a → FitsWidth width b → FitsWidth width (bit_or a b)
or_fits width a b p q = record { narrow = p.narrow; fits = or_lt width a b p.fits q.fits }

-- a word that fits is one of 64 bits
pub fits_word : (width n : ℕ) → FitsWidth width n → n < 2 ^ 64
fits_word width n h = lt_of_lt_of_le h.fits (pow_mono h.narrow)

-- the test `a & b == a`
pub members-within : (width a b : ℕ) → a < 2 ^ width → b < 2 ^ width → eqb (bit_and a b) a ≡ all_in (members width a) (members width b)
members-within width a b p q = by_test (cases_Bool (eqb (bit_and a b) a)) (cases_Bool (all_in (members width a) (members width b)))
  where
    forth : bit_and a b ≡ a → (x : ℕ) → is_in x (members width a) ≡ true → is_in x (members width b) ≡ true
    forth e x m =
        let t : (is_in x (members width a) && is_in x (members width b)) ≡ true = sym (is_in-members_and width x a b) ∙ ap (λ n. is_in x (members width n)) e ∙ m in
        (and_parts (is_in x (members width a)) (is_in x (members width b)) t).1

    back : all_in (members width a) (members width b) ≡ true → bit_and a b ≡ a
    back t = same_from_members width (bit_and a b) a (lt_of_le_of_lt (and_le_l a b) p) p
        (same_below width (members width (bit_and a b)) (members width a) (members-rise width (bit_and a b)) (members-rise width a)
        (λ x h. is_in-members_and width x a b ∙ joined x (all_in-member x (members width a) (members width b) t)))
      where
        joined : (x : ℕ) → (is_in x (members width a) ≡ true → is_in x (members width b) ≡ true) → (is_in x (members width a) && is_in x (members width b)) ≡ is_in x (members width a)
        joined x h = and_implied (is_in x (members width a)) (is_in x (members width b)) h

    by_test : (eqb (bit_and a b) a ≡ true) ⊎ (eqb (bit_and a b) a ≡ false) → (all_in (members width a) (members width b) ≡ true) ⊎ (all_in (members width a) (members width b) ≡ false) → eqb (bit_and a b) a ≡ all_in (members width a) (members width b)
    by_test (inl e) t = e ∙ sym (all_in-members (members width a) (members width b) (forth (eqb-true (bit_and a b) a e)))
    by_test (inr e) (inr f) = e ∙ sym f
    by_test (inr e) (inl t) = absurd (eqb-false (bit_and a b) a e (back t))

-- a word below 2 ^ width without members is 0
pub zero_from_none : (width n : ℕ) → n < 2 ^ width → members width n ≡ [] → n ≡ 0
zero_from_none width n h e = sym (word_of-members width n h) ∙ ap word_of e ∙ word_of-nil

-- the test `a & b != 0`
pub members-meets : (width a b : ℕ) → a < 2 ^ width → not (eqb (bit_and a b) 0) ≡ any_in (members width a) (members width b)
members-meets width a b p = by_test (cases_Bool (eqb (bit_and a b) 0)) (cases_Bool (any_in (members width a) (members width b)))
  where
    forth : any_in (members width a) (members width b) ≡ true → bit_and a b ≡ 0 → ⊥
    forth t e =
        let m = any_in-member (members width a) (members width b) t in
        let both = and_from (is_in m.0 (members width a)) (is_in m.0 (members width b)) m.1 m.2 in
        let none : is_in m.0 (members width (bit_and a b)) ≡ false = ap (λ n. is_in m.0 (members width n)) e ∙ ap (λ xs. is_in m.0 xs) (members-none width) in
        false≢true (sym none ∙ is_in-members_and width m.0 a b ∙ both)

    back : any_in (members width a) (members width b) ≡ false → bit_and a b ≡ 0
    back t = zero_from_none width (bit_and a b) (lt_of_le_of_lt (and_le_l a b) p)
        (nil_from_none (members width (bit_and a b)) (λ x. is_in-members_and width x a b ∙ both_false (is_in x (members width a)) (is_in x (members width b)) (any_in-none x (members width a) (members width b) t)))

    by_test : (eqb (bit_and a b) 0 ≡ true) ⊎ (eqb (bit_and a b) 0 ≡ false) → (any_in (members width a) (members width b) ≡ true) ⊎ (any_in (members width a) (members width b) ≡ false) → not (eqb (bit_and a b) 0) ≡ any_in (members width a) (members width b)
    by_test (inl e) (inl t) = absurd (forth t (eqb-true (bit_and a b) 0 e))
    by_test (inl e) (inr t) = rw (e, t) refl
    by_test (inr e) (inl t) = rw (e, t) refl
    by_test (inr e) (inr t) = absurd (eqb-false (bit_and a b) 0 e (back t))

-- ---- the least member and the number of members

-- the least member is below the width: a word below 2 ^ width has no bit from there on
pub least_below : (width n : ℕ) → 0 < n → FitsWidth width n → trailing_zeros w64 n < width
least_below width n p h = at_place (cases_lt (trailing_zeros w64 n) width)
  where
    at_place : (trailing_zeros w64 n < width) ⊎ (width ≤ trailing_zeros w64 n) → trailing_zeros w64 n < width
    at_place (inl q) = q
    at_place (inr q) =
        let set = (bit_at-trailing_zeros w64 n p (fits_word width n h)).1 in
        let clear = bit_at_above n width (trailing_zeros w64 n) h.fits q in
        absurd (omega (arith, set, clear))

-- `trailing_zeros` of a word that is not 0
pub members-least : (width n : ℕ) → 0 < n → FitsWidth width n → slice_get (members width n) 0 ≡ Some (trailing_zeros w64 n)
members-least width n p h =
    let z = bit_at-trailing_zeros w64 n p (fits_word width n h) in
    head_from_least 0 (trailing_zeros w64 n) (members width n) (members-rise width n).rising (is_in_bit width (trailing_zeros w64 n) n (least_below width n p h) ∙ rw z.1 refl)
    (λ y q. is_in-members width y n ∙ none y (z.2 y q))
  where
    none : (y : ℕ) → bit_at n y ≡ 0 → (ltb y width && eqb (bit_at n y) 1) ≡ false
    none y e = rw e (never (ltb y width))

pub members-least_rest : (width n : ℕ) → 0 < n → FitsWidth width n → members width n ≡ trailing_zeros w64 n ∷ without_member (trailing_zeros w64 n) (members width n)
members-least_rest width n p h = first_and_rest width (trailing_zeros w64 n) (members width n) (members-rise width n) (members-least width n p h)

-- the number of digits of a bit, as the length of the list of an item where it is set
ones_of_bit : (b x : ℕ) → b < 2 → count_ones b ≡ length (if eqb b 1 then x ∷ [] else [])
ones_of_bit zero x h = let z = ones_le_self 0 in omega (arith, z)
ones_of_bit (suc zero) x h = ones-ones 1
ones_of_bit (suc (suc b)) x h = absurd (omega arith)

members-count_mod : (width n : ℕ) → count_ones (n % 2 ^ width) ≡ length (members width n)
members-count_mod zero n = ap count_ones (none n) ∙ ones_of_bit 0 0 (omega arith) ∙ ap length (sym (members-zero n))
  where
    none : (n : ℕ) → n % 1 ≡ 0
    none n = let h : n % 1 < 1 = omega arith in omega arith
members-count_mod (suc width) n =
    let bit = bit_at n width in
    ap count_ones (mod-suc_bit width n)
    ∙ ones_cat width bit (n % 2 ^ width) (mod-lt n (pow_pos width))
    ∙ ap (λ k. count_ones bit + k) (members-count_mod width n)
    ∙ ap (λ k. k + length (members width n)) (ones_of_bit bit width (bit_at-lt n width))
    ∙ add_comm (length (if eqb bit 1 then width ∷ [] else [])) (length (members width n))
    ∙ sym (ap length (members-suc width n) ∙ length-append (members width n) (if eqb bit 1 then width ∷ [] else []))

-- `count_ones`
pub members-count : (width n : ℕ) → n < 2 ^ width → count_ones n ≡ length (members width n)
members-count width n h = ap count_ones (sym (mod-eq_of_lt h)) ∙ members-count_mod width n

-- the test `a == b`
pub members-same : (width a b : ℕ) → a < 2 ^ width → b < 2 ^ width → eqb a b ≡ pointwise eqb (members width a) (members width b)
members-same width a b p q =
    same_from_decides (eqb a b) (pointwise eqb (members width a) (members width b))
    (Decides-like (eqb a b) (λ e. ap (members width) e) (same_from_members width a b p q) (Decides-eqb a b))
    (bytes_decides (members width a) (members width b))
