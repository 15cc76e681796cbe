-- Laws of sets of joint data as rows of bits.
use Rattle.std.proofs.Common.{◌≡◌, ◌≢◌, ◌⊎◌, inl, inr, ℕ, ◌+◌, ◌-◌, ◌*◌, ◌/◌, ◌%◌, ◌^◌, ◌<◌, ◌≤◌, min, Bool, true, false, ◌&&◌, ◌||◌, ◌==◌, nat_lt, List, length, replicate, set, slice_index, refl, sym, subst, ap, ap₂, ◌∙◌, arith, eq-eqb, eqb-true}
use Rattle.std.specs.Prelude.{MatchOption, Option, Some, None, bit_and}
use Rattle.std.specs.Int.{bit_at, bit_not, w64, trailing_zeros}
use Rattle.std.specs.List.{range_with_len}
use Rattle.std.proofs.lemmas.Bool.{cases_eq, cases_lt, cases_Bool, lt-ltb, ltb-true, le-ltb, ne_eqb, and_parts}
use Rattle.std.proofs.lemmas.List.{get_or_past, get_or-replicate, get_or-set_same, get_or-set_other}
use Rattle.std.proofs.lemmas.Nat.{and_le_l, shr-shr}
use Rattle.std.proofs.lemmas.Nat.Bits.{bit_at-lt, bit_at_and, bit_at_not, bit_at-zero, bit_at_above, bit_at_ones, bit_at_ones_above, bit_at-trailing_zeros}
use Rattle.std.proofs.Math.Nat.{lt_of_le_of_lt, mod-eq_of_lt}
use Rattle.std.proofs.Math.Pow.{pow-lt}
use Rattle.nego_base.specs.Members.{is_in, IsRising, IsRisingBelow}
use Rattle.nego_base.proofs.Members.{is_in-filter, is_in-range_zero, rises-filter, rises-range, All-members}
use Rattle.nego_data.specs.BitRows.{is_set}
use Rattle.nego_data.specs.DataSets.{set_members, IsNoneBesides, IsLeastBesides}
use Rattle.nego_data.specs.Tables.{row_words}

-- ---- the numbers of a set

module _ (words : List ℕ) where
  -- what stands in a set
  pub is_in-set : (e : ℕ) → is_in e (set_members words) ≡ (is_set words e && nat_lt e 1024)
  unfolding set_members
  is_in-set e = is_in-filter (is_set words) e (range_with_len 0 1024) ∙ ap (λ b. is_set words e && b) (is_in-range_zero e 1024)

  -- numbers below 1,024 stand in a set as their bits say
  pub is_in-set_below : (e : ℕ) → e < 1024 → is_in e (set_members words) ≡ is_set words e
  is_in-set_below e h = is_in-set e ∙ ap (λ b. is_set words e && b) (lt-ltb e 1024 h) ∙ and_true (is_set words e)
    where
      and_true : (b : Bool) → (b && true) ≡ b
      and_true true = refl
      and_true false = refl

  -- what stands in a set is below 1,024
  pub set_below : (e : ℕ) → is_in e (set_members words) ≡ true → e < 1024
  set_below e h = ltb-true e 1024 (and_parts (is_set words e) (nat_lt e 1024) (sym (is_in-set e) ∙ h)).1

  -- no greater number stands in a set
  pub set_past : (e : ℕ) → 1024 ≤ e → is_in e (set_members words) ≡ false
  set_past e h = elim (cases_Bool (is_in e (set_members words))) [
    | inl t ↦ let less = set_below e t in absurd (omega arith)
    | inr f ↦ f
  ]

  rises-set : IsRising (set_members words)
  unfolding set_members
  rises-set = rises-filter (is_set words) 0 (range_with_len 0 1024) (rises-range 0 1024)

  -- a set rises, and is below any number that all in it are below
  pub set-rises : (count : ℕ) → ((e : ℕ) → is_in e (set_members words) ≡ true → e < count) → IsRisingBelow count (set_members words)
  set-rises count h = record { rising = rises-set; below = All-members (λ e. e < count) (set_members words) h }

-- any words are a set of numbers below 1,024
pub set-rises_below : (words : List ℕ) → IsRisingBelow 1024 (set_members words)
set-rises_below words = set-rises words 1024 (set_below words)

-- words of zeros are the empty set
pub none-set : (e : ℕ) → is_in e (set_members (replicate 16 0)) ≡ false
none-set e = elim (cases_lt e 1024) [
  | inl h ↦ is_in-set_below (replicate 16 0) e h ∙ ap (λ word. bit_at word (e % 64) == 1) (get_or-replicate 16 (e / 64) 0 0 (omega (arith, h))) ∙ ap (λ b. b == 1) (bit_at-zero (e % 64))
  | inr h ↦ set_past (replicate 16 0) e h
]

-- one more number
pub insert-set : (words after : List ℕ) (e : ℕ) → e < 1024 → ((f : ℕ) → is_set after f ≡ (is_set words f || f == e)) → (f : ℕ) → is_in f (set_members after) ≡ (e == f || is_in f (set_members words))
insert-set words after e h each f = elim (cases_lt f 1024) [
  | inl less ↦ is_in-set_below after f less ∙ each f ∙ turned (is_set words f) (cases_eq f e) ∙ ap (λ b. e == f || b) (sym (is_in-set_below words f less))
  | inr more ↦ set_past after f more ∙ sym (ap₂ ◌||◌ (ne_eqb e f (λ same. absurd (omega arith))) (set_past words f more))
]
  where
    turned : (b : Bool) → (f ≡ e) ⊎ (f ≡ e → ⊥) → (b || f == e) ≡ (e == f || b)
    turned b (inl same) = ap (λ t. b || t) (eq-eqb f e same) ∙ or_true b ∙ sym (ap (λ t. t || b) (eq-eqb e f (sym same)))
      where
        or_true : (b : Bool) → (b || true) ≡ true
        or_true true = refl
        or_true false = refl
    turned b (inr other) = ap (λ t. b || t) (ne_eqb f e other) ∙ or_false b ∙ sym (ap (λ t. t || b) (ne_eqb e f (λ same. other (sym same))))
      where
        or_false : (b : Bool) → (b || false) ≡ b
        or_false true = refl
        or_false false = refl

-- all that is in one of two sets
pub united-set : (words others after : List ℕ) → ((e : ℕ) → e / 64 < 16 → is_set after e ≡ (is_set words e || is_set others e)) → (e : ℕ) →
    is_in e (set_members after) ≡ (is_in e (set_members words) || is_in e (set_members others))
united-set words others after each e = elim (cases_lt e 1024) [
  | inl h ↦ is_in-set_below after e h ∙ each e (omega (arith, h)) ∙ sym (ap₂ ◌||◌ (is_in-set_below words e h) (is_in-set_below others e h))
  | inr h ↦ set_past after e h ∙ sym (ap₂ ◌||◌ (set_past words e h) (set_past others e h))
]

-- ---- the least number that the other set hasn't

module _ (word other low : ℕ) (small : word < 2 ^ 64) (fits : other < 2 ^ 64) (begins : low < 64) where
  abbrev both : ℕ
  both = bit_and word (bit_not w64 other)

  abbrev left : ℕ
  left = both / 2 ^ low

  -- the bits that are left are those of the word that the other hasn't
  at_left : (i : ℕ) → low ≤ i → i < 64 → bit_at left (i - low) ≡ min (bit_at word i) (1 - bit_at other i)
  at_left i h k =
      let sum : low + (i - low) ≡ i = omega arith in
      ap (λ m. m % 2) (shr-shr both low (i - low)) ∙ ap (bit_at both) sum ∙ bit_at_and word (bit_not w64 other) i ∙ ap (min (bit_at word i)) (bit_at_not w64 other i fits k)

  implied : (i : ℕ) → low ≤ i → i < 64 → bit_at left (i - low) ≡ 0 → (bit_at word i == 1) ≡ true → (bit_at other i == 1) ≡ true
  implied i h k none is =
      let one = eqb-true (bit_at word i) 1 is in
      let e = at_left i h k in
      let less = bit_at-lt other i in
      eq-eqb (bit_at other i) 1 (omega (arith, one, e, less, none))

  -- where none are left, there is no such bit
  pub no_bit : left ≡ 0 → IsNoneBesides (λ i. bit_at word i == 1) (λ i. bit_at other i == 1) low 64
  no_bit none i h k is = implied i h k (ap (λ m. bit_at m (i - low)) none ∙ bit_at-zero (i - low)) is

  fits_both : both < 2 ^ 64
  fits_both = lt_of_le_of_lt (and_le_l word (bit_not w64 other)) small

  fits_left : left < 2 ^ 64
  fits_left = lt_of_le_of_lt (omega arith) fits_both

  -- the least that is left is the least such bit
  pub found_bit : 0 < left → IsLeastBesides (λ i. bit_at word i == 1) (λ i. bit_at other i == 1) low 64 (low + trailing_zeros w64 left)
  found_bit some = record {
    within = eq-eqb (bit_at word place) 1 (omega (arith, here, at, low_word));
    without = ne_eqb (bit_at other place) 1 (λ one. absurd (omega (arith, here, at, one)));
    beyond = omega arith;
    below = inside;
    least = λ i h k is.
        let before : i - low < zeros = omega (arith, h, k) in
        implied i h (omega (arith, k, inside)) ((bit_at-trailing_zeros w64 left some fits_left).2 (i - low) before) is;
  }
    where
      zeros : ℕ
      zeros = trailing_zeros w64 left

      place : ℕ
      place = low + zeros

      set_bit : bit_at left zeros ≡ 1
      set_bit = (bit_at-trailing_zeros w64 left some fits_left).1

      inside : place < 64
      inside = elim (cases_lt place 64) [
        | inl h ↦ h
        | inr h ↦
            let above : bit_at left zeros ≡ 0 = ap (λ m. m % 2) (shr-shr both low zeros) ∙ bit_at_above both 64 place fits_both h in
            absurd (omega (arith, above, set_bit))
      ]

      back : place - low ≡ zeros
      back = omega arith

      at : min (bit_at word place) (1 - bit_at other place) ≡ 1
      at = sym (at_left place (omega arith) inside) ∙ ap (bit_at left) back ∙ set_bit

      here : place < 64
      here = inside

      low_word : bit_at word place < 2
      low_word = bit_at-lt word place

module _ (words others : List ℕ) where
  -- no number so far, where no bit of one more word is one
  pub none_more : (from k low : ℕ) → low < 64 → IsNoneBesides (is_set words) (is_set others) from (64 * k + low) → IsNoneBesides (λ i. bit_at (slice_index words k) i == 1) (λ i. bit_at (slice_index others k) i == 1) low 64 →
      IsNoneBesides (is_set words) (is_set others) from (64 * k + 64)
  none_more from k low small before none e h less is = elim (cases_lt e (64 * k + low)) [
    | inl sooner ↦ before e h sooner is
    | inr later ↦
        let place : e / 64 ≡ k = omega arith in
        subst (λ n. (bit_at (slice_index others n) (e % 64) == 1) ≡ true) (sym place)
        (none (e % 64) (omega arith) (omega arith) (subst (λ n. (bit_at (slice_index words n) (e % 64) == 1) ≡ true) place is))
  ]

  -- the bit of a word is the least such number, where there was none before
  pub found_number : (from k low bit : ℕ) → k < 16 → from ≤ 64 * k + low → IsNoneBesides (is_set words) (is_set others) from (64 * k + low) →
      IsLeastBesides (λ i. bit_at (slice_index words k) i == 1) (λ i. bit_at (slice_index others k) i == 1) low 64 bit → IsLeastBesides (is_set words) (is_set others) from 1024 (64 * k + bit)
  found_number from k low bit small begins before found =
      let inside = found.below in
      let beyond = found.beyond in
      let place : (64 * k + bit) / 64 ≡ k = omega (arith, inside) in
      let within : (64 * k + bit) % 64 ≡ bit = omega (arith, inside) in
      record {
        within = ap₂ (λ n i. bit_at (slice_index words n) i == 1) place within ∙ found.within;
        without = ap₂ (λ n i. bit_at (slice_index others n) i == 1) place within ∙ found.without;
        beyond = omega (arith, begins, beyond);
        below = omega (arith, small, inside);
        least = λ e h less is. elim (cases_lt e (64 * k + low)) [
          | inl sooner ↦ before e h sooner is
          | inr later ↦
              let at : e / 64 ≡ k = omega (arith, less, later, inside) in
              subst (λ n. (bit_at (slice_index others n) (e % 64) == 1) ≡ true) (sym at)
              (found.least (e % 64) (omega (arith, at, later)) (omega (arith, at, less)) (subst (λ n. (bit_at (slice_index words n) (e % 64) == 1) ≡ true) at is))
        ];
      }

  -- what is found of words is found of their sets
  pub besides-set : (from : ℕ) (found : Option ℕ) → MatchOption found (IsNoneBesides (is_set words) (is_set others) from 1024) (IsLeastBesides (is_set words) (is_set others) from 1024) →
      MatchOption found (IsNoneBesides (λ e. is_in e (set_members words)) (λ e. is_in e (set_members others)) from 1024) (IsLeastBesides (λ e. is_in e (set_members words)) (λ e. is_in e (set_members others)) from 1024)
  besides-set from None none = carried 1024 (omega arith) none
    where
      carried : (end : ℕ) → end ≤ 1024 → IsNoneBesides (is_set words) (is_set others) from end → IsNoneBesides (λ e. is_in e (set_members words)) (λ e. is_in e (set_members others)) from end
      carried end h none e low less is = is_in-set_below others e (omega (arith, h, less)) ∙ none e low less (sym (is_in-set_below words e (omega (arith, h, less))) ∙ is)
  besides-set from (Some e) found =
      let below = found.below in
      record {
        within = is_in-set_below words e below ∙ found.within;
        without = is_in-set_below others e below ∙ found.without;
        beyond = found.beyond;
        below = below;
        least = λ f low less is.
            let small : f < 1024 = omega (arith, below, less) in
            is_in-set_below others f small ∙ found.least f low less (sym (is_in-set_below words f small) ∙ is);
      }

-- ---- words that are cut

-- the word of one bit
pub one_bit : (k : ℕ) → k < 64 → 1 * 2 ^ k % 2 ^ 64 ≡ 2 ^ k
one_bit k h =
    let low : 2 ^ k < 2 ^ 64 = pow-lt h in
    let once : 1 * 2 ^ k ≡ 2 ^ k = omega arith in
    let less : 1 * 2 ^ k < 2 ^ 64 = omega (arith, low) in
    mod-eq_of_lt less ∙ once

-- the bits of the last word below a count
pub cut-set : (row : List ℕ) (count : ℕ) → count % 64 ≢ 0 → count / 64 < length row → (e : ℕ) → e / 64 < row_words count →
    is_set (set row (count / 64) (bit_and (slice_index row (count / 64)) (2 ^ (count % 64) - 1))) e ≡ (is_set row e && nat_lt e count)
cut-set row count some there e within = elim (cases_eq (e / 64) (count / 64)) [
  | inl same ↦
      ap (λ w. bit_at w (e % 64) == 1) (ap (slice_index (set row (count / 64) new)) same ∙ get_or-set_same row (count / 64) new 0 there)
      ∙ ap (λ b. b == 1) (bit_at_and old (2 ^ (count % 64) - 1) (e % 64))
      ∙ at_bit same (cases_lt (e % 64) (count % 64))
      ∙ ap (λ n. bit_at (slice_index row n) (e % 64) == 1 && nat_lt e count) (sym same)
  | inr other ↦
      ap (λ w. bit_at w (e % 64) == 1) (get_or-set_other row (count / 64) (e / 64) new 0 other)
      ∙ sym (ap (λ b. is_set row e && b) (lt-ltb e count (omega (arith, other, within))) ∙ and_true (is_set row e))
]
  where
    old : ℕ
    old = slice_index row (count / 64)

    new : ℕ
    new = bit_and old (2 ^ (count % 64) - 1)

    and_true : (b : Bool) → (b && true) ≡ b
    and_true true = refl
    and_true false = refl

    and_false : (b : Bool) → (b && false) ≡ false
    and_false true = refl
    and_false false = refl

    at_bit : e / 64 ≡ count / 64 → (e % 64 < count % 64) ⊎ (count % 64 ≤ e % 64) → (min (bit_at old (e % 64)) (bit_at (2 ^ (count % 64) - 1) (e % 64)) == 1) ≡ (bit_at old (e % 64) == 1 && nat_lt e count)
    at_bit same (inl less) =
        ap (λ b. min (bit_at old (e % 64)) b == 1) (bit_at_ones (count % 64) (e % 64) less) ∙ ap (λ b. b == 1) (one (bit_at old (e % 64)) (bit_at-lt old (e % 64)))
        ∙ sym (ap (λ b. bit_at old (e % 64) == 1 && b) (lt-ltb e count (omega (arith, same, less))) ∙ and_true (bit_at old (e % 64) == 1))
      where
        one : (s : ℕ) → s < 2 → min s 1 ≡ s
        one s h = omega (arith, h)
    at_bit same (inr more) =
        ap (λ b. min (bit_at old (e % 64)) b == 1) (bit_at_ones_above (count % 64) (e % 64) more) ∙ ap (λ b. b == 1) (none (bit_at old (e % 64)))
        ∙ sym (ap (λ b. bit_at old (e % 64) == 1 && b) (le-ltb e count (omega (arith, same, more))) ∙ and_false (bit_at old (e % 64) == 1))
      where
        none : (s : ℕ) → min s 0 ≡ 0
        none s = omega arith

-- the set of the numbers below a count whose bits are set
pub below-set : (words full row : List ℕ) (count : ℕ) → count ≤ 1024 → length words ≡ row_words count → ((k : ℕ) → slice_index full k ≡ slice_index words k) →
    ((e : ℕ) → e / 64 < row_words count → is_set row e ≡ (is_set full e && nat_lt e count)) → ((k : ℕ) → row_words count ≤ k → slice_index row k ≡ slice_index full k) →
    (e : ℕ) → is_in e (set_members row) ≡ (is_set words e && nat_lt e count)
below-set words full row count few long padded cut rest e = elim (cases_lt (e / 64) (row_words count)) [
  | inl within ↦
      is_in-set_below row e (omega (arith, few, within)) ∙ cut e within ∙ ap (λ w. bit_at w (e % 64) == 1 && nat_lt e count) (padded (e / 64))
  | inr past ↦
      let behind : length words ≤ e / 64 = omega (arith, long, past) in
      let none : slice_index words (e / 64) ≡ 0 = get_or_past words (e / 64) 0 behind in
      let unset : is_set words e ≡ false = ap (λ w. bit_at w (e % 64) == 1) none ∙ ap (λ b. b == 1) (bit_at-zero (e % 64)) in
      is_in-set row e ∙ ap (λ b. b && nat_lt e 1024) (ap (λ w. bit_at w (e % 64) == 1) (rest (e / 64) past ∙ padded (e / 64)) ∙ unset) ∙ sym (ap (λ b. b && nat_lt e count) unset)
]

-- it is below the count
pub below-rises : (words row : List ℕ) (count : ℕ) → ((e : ℕ) → is_in e (set_members row) ≡ (is_set words e && nat_lt e count)) → IsRisingBelow count (set_members row)
below-rises words row count each = set-rises row count (λ e m. ltb-true e count (and_parts (is_set words e) (nat_lt e count) (sym (each e) ∙ m)).1)
