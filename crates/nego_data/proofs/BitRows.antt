-- Laws of sets of joint data that are kept as rows of bits.
use Rattle.std.proofs.Common.{◌≡◌, inl, inr, ℕ, ◌+◌, ◌-◌, ◌*◌, ◌/◌, ◌%◌, ◌^◌, ◌<◌, ◌≤◌, min, max, Bool, true, false, ◌&&◌, ◌||◌, ◌==◌, nat_le, nat_lt, List, length, set, slice_index, refl, sym, ap, ap₂, ◌∙◌, arith, add-zero, eq-eqb}
use Rattle.std.specs.Prelude.{bit_and, bit_or}
use Rattle.std.specs.Int.{bit_at, w64}
use Rattle.std.proofs.lemmas.Bool.{cases_eq, cases_lt, cond-true, cond-false, le-leb, lt-leb, ne_eqb, or_right}
use Rattle.std.proofs.lemmas.Bool.Decides.{nat_tests}
use Rattle.std.proofs.lemmas.List.{get_or-set_same, get_or-set_other}
use Rattle.std.proofs.lemmas.Nat.{pow_pos, shr-shr, shr_split}
use Rattle.std.proofs.lemmas.Nat.Bits.{bit_at-lt, bit_at-zero, bit_at_and, bit_at_or, bit_at_above, bit_at_cat_low, bit_at_cat_high, bit_at_set_same, bit_at_set_other}
use Rattle.nego_data.specs.BitRows.{is_set, is_moved, word_below}

-- ---- words that are moved

-- the low bits of a number
bit_at-mod : (n k i : ℕ) → i < k → bit_at (n % 2 ^ k) i ≡ bit_at n i
bit_at-mod n k i h = sym (bit_at_cat_low (n / 2 ^ k) k (n % 2 ^ k) i h) ∙ ap (λ m. bit_at m i) (shr_split n k)

-- the bits of a number that is moved down
bit_at-down : (n k i : ℕ) → bit_at (n / 2 ^ k) i ≡ bit_at n (k + i)
bit_at-down n k i = ap (λ m. m % 2) (shr-shr n k i)

-- the bits of a number that is moved up
bit_at-up : (n k i : ℕ) → k ≤ i → bit_at (n * 2 ^ k) i ≡ bit_at n (i - k)
bit_at-up n k i h = ap (λ m. bit_at m i) (sym (add-zero (n * 2 ^ k))) ∙ bit_at_cat_high n k 0 i (pow_pos k) h

-- a number that is moved up has no low bits
bit_at-up_none : (n k i : ℕ) → i < k → bit_at (n * 2 ^ k) i ≡ 0
bit_at-up_none n k i h = ap (λ m. bit_at m i) (sym (add-zero (n * 2 ^ k))) ∙ bit_at_cat_low n k 0 i h ∙ bit_at-zero i

max_zero : (n : ℕ) → max n 0 ≡ n
max_zero n = omega arith

zero_max : (n : ℕ) → max 0 n ≡ n
zero_max n = omega arith

-- the bits of a word that is moved up by less than a word, with those that come from the word below it
module _ (high low by i : ℕ) (small : low < 2 ^ 64) (less : by < 64) (within : i < 64) where
  low_bit : bit_at (low / 2 / 2 ^ (63 - by)) i ≡ bit_at low (64 - by + i)
  low_bit =
      let sum : 1 + (63 - by + i) ≡ 64 - by + i = omega arith in
      bit_at-down (low / 2) (63 - by) i ∙ bit_at-down low 1 (63 - by + i) ∙ ap (bit_at low) sum

  bit_from_high : by ≤ i → bit_at (bit_or (high * 2 ^ by % 2 ^ 64) (low / 2 / 2 ^ (63 - by))) i ≡ bit_at high (i - by)
  bit_from_high h =
      bit_at_or (high * 2 ^ by % 2 ^ 64) (low / 2 / 2 ^ (63 - by)) i
      ∙ ap₂ max (bit_at-mod (high * 2 ^ by) 64 i within ∙ bit_at-up high by i h) (low_bit ∙ bit_at_above low 64 (64 - by + i) small (omega arith))
      ∙ max_zero (bit_at high (i - by))

  bit_from_low : i < by → bit_at (bit_or (high * 2 ^ by % 2 ^ 64) (low / 2 / 2 ^ (63 - by))) i ≡ bit_at low (64 - by + i)
  bit_from_low h =
      bit_at_or (high * 2 ^ by % 2 ^ 64) (low / 2 / 2 ^ (63 - by)) i
      ∙ ap₂ max (bit_at-mod (high * 2 ^ by) 64 i within ∙ bit_at-up_none high by i h) low_bit
      ∙ zero_max (bit_at low (64 - by + i))

-- ---- rows that are moved

-- a bit of a row is that of the number that it is moved to
moved_at : (row : List ℕ) (by e k j : ℕ) → by ≤ e → (e - by) / 64 ≡ k → (e - by) % 64 ≡ j → (bit_at (slice_index row k) j == 1) ≡ is_moved row by e
moved_at row by e k j h p q =
    ap₂ (λ w i. bit_at (slice_index row w) i == 1) (sym p) (sym q) ∙ ap (λ b. b && is_set row (e - by)) (sym (le-leb by e h))

-- no bit is moved below
not_moved : (row : List ℕ) (by e : ℕ) → e < by → is_moved row by e ≡ false
not_moved row by e h = ap (λ b. b && is_set row (e - by)) (lt-leb by e h)

-- a set that is moved by nothing is as it was
pub moved_by_nothing : (row : List ℕ) (e : ℕ) → is_moved row 0 e ≡ is_set row e
moved_by_nothing row e =
    let same : e - 0 ≡ e = omega arith in
    ap (λ b. b && is_set row (e - 0)) (le-leb 0 e (omega arith)) ∙ ap (is_set row) same

-- where a bit is moved to depends on the distance alone
moved_along : (row : List ℕ) (by e by' e' : ℕ) → by + e' ≡ by' + e → is_moved row by e ≡ is_moved row by' e'
moved_along row by e by' e' same = elim (cases_lt e by) [
  | inl less ↦ not_moved row by e less ∙ sym (not_moved row by' e' (omega arith))
  | inr more ↦
      let distance : e - by ≡ e' - by' = omega arith in
      ap (λ b. b && is_set row (e - by)) (le-leb by e more) ∙ ap (is_set row) distance ∙ ap (λ b. b && is_set row (e' - by')) (sym (le-leb by' e' (omega arith)))
]

-- the bits of a word that is so many words below
below_moved : (row : List ℕ) (place down j : ℕ) → j < 64 → (bit_at (word_below row place down) j == 1) ≡ is_moved row (64 * down) (64 * place + j)
below_moved row place down j h = elim (cases_lt place down) [
  | inl less ↦
      ap (λ w. bit_at w j == 1) (cond-false (nat_le down place) (slice_index row (place - down)) 0 (lt-leb down place less)) ∙ ap (λ b. b == 1) (bit_at-zero j)
      ∙ sym (not_moved row (64 * down) (64 * place + j) (omega arith))
  | inr more ↦
      ap (λ w. bit_at w j == 1) (cond-true (nat_le down place) (slice_index row (place - down)) 0 (le-leb down place more))
      ∙ moved_at row (64 * down) (64 * place + j) (place - down) j (omega arith) (omega arith) (omega arith)
]

-- the bits of the word at a place of the row that is moved up
pub moved_word_bits : (row : List ℕ) (place by high low : ℕ) → low < 2 ^ 64 → high ≡ word_below row place (by / 64) → low ≡ word_below row place (by / 64 + 1) →
    (e : ℕ) → e / 64 ≡ place → (bit_at (bit_or (high * 2 ^ (by % 64) % 2 ^ 64) (low / 2 / 2 ^ (63 - by % 64))) (e % 64) == 1) ≡ is_moved row by e
moved_word_bits row place by high low small is_high is_low e here =
    let less_by : by % 64 < 64 = omega arith in
    let less_e : e % 64 < 64 = omega arith in
    elim (cases_lt (e % 64) (by % 64)) [
      | inl less ↦
          ap (λ b. b == 1) (bit_from_low high low (by % 64) (e % 64) small less_by less_e less ∙ ap (λ w. bit_at w (64 - by % 64 + e % 64)) is_low)
          ∙ below_moved row place (by / 64 + 1) (64 - by % 64 + e % 64) (omega arith)
          ∙ moved_along row (64 * (by / 64 + 1)) (64 * place + (64 - by % 64 + e % 64)) by e (omega arith)
      | inr more ↦
          ap (λ b. b == 1) (bit_from_high high low (by % 64) (e % 64) small less_by less_e more ∙ ap (λ w. bit_at w (e % 64 - by % 64)) is_high)
          ∙ below_moved row place (by / 64) (e % 64 - by % 64) (omega arith)
          ∙ moved_along row (64 * (by / 64)) (64 * place + (e % 64 - by % 64)) by e (omega arith)
    ]

-- ---- additions to a row

-- one more number
pub is_set-insert : (row : List ℕ) (e f : ℕ) → e / 64 < length row →
    is_set (set row (e / 64) (bit_or (slice_index row (e / 64)) (1 * 2 ^ (e % 64) % 2 ^ 64))) f ≡ (is_set row f || f == e)
is_set-insert row e f here = elim (cases_eq (f / 64) (e / 64)) [
  | inl same_word ↦ elim (cases_eq (f % 64) (e % 64)) [
    | inl same_place ↦
        ap (λ b. b == 1) (ap₂ bit_at (at_word same_word) same_place ∙ bit_at_set_same w64 word (e % 64) within)
        ∙ sym (or_right (is_set row f) (f == e) (eq-eqb f e (omega arith)))
    | inr other_place ↦
        ap (λ b. b == 1) (ap (λ w. bit_at w (f % 64)) (at_word same_word) ∙ bit_at_set_other w64 word (e % 64) within (f % 64) other_place ∙ ap (λ n. bit_at (slice_index row n) (f % 64)) (sym same_word))
        ∙ kept (λ same. other_place (ap (λ n. n % 64) same))
  ]
  | inr other_word ↦ ap (λ w. bit_at w (f % 64) == 1) (get_or-set_other row (e / 64) (f / 64) new 0 other_word) ∙ kept (λ same. other_word (ap (λ n. n / 64) same))
]
  where
    word : ℕ
    word = slice_index row (e / 64)

    new : ℕ
    new = bit_or word (1 * 2 ^ (e % 64) % 2 ^ 64)

    within : e % 64 < 64
    within = omega arith

    at_word : f / 64 ≡ e / 64 → slice_index (set row (e / 64) new) (f / 64) ≡ new
    at_word same = ap (slice_index (set row (e / 64) new)) same ∙ get_or-set_same row (e / 64) new 0 here

    or_none : (b : Bool) → b ≡ (b || false)
    or_none true = refl
    or_none false = refl

    kept : (f ≡ e → ⊥) → is_set row f ≡ (is_set row f || f == e)
    kept other = or_none (is_set row f) ∙ ap (λ b. is_set row f || b) (sym (ne_eqb f e other))

-- ---- rows that are put together word by word

-- the bits of words are joined one by one
pub or_joins : (old word k : ℕ) → (bit_at (bit_or old word) k == 1) ≡ (bit_at old k == 1 || bit_at word k == 1)
or_joins old word k = ap (λ b. b == 1) (bit_at_or old word k) ∙ either (bit_at old k) (bit_at word k) (bit_at-lt old k) (bit_at-lt word k)
  where
    either : (s t : ℕ) → s < 2 → t < 2 → (max s t == 1) ≡ (s == 1 || t == 1)
    either s t p q = grind (arith, nat_tests)

pub and_joins : (old word k : ℕ) → (bit_at (bit_and old word) k == 1) ≡ (bit_at old k == 1 && bit_at word k == 1)
and_joins old word k = ap (λ b. b == 1) (bit_at_and old word k) ∙ both (bit_at old k) (bit_at word k) (bit_at-lt old k) (bit_at-lt word k)
  where
    both : (s t : ℕ) → s < 2 → t < 2 → (min s t == 1) ≡ (s == 1 && t == 1)
    both s t p q = grind (arith, nat_tests)

-- one more word that is joined
pub joined-word : (op : ℕ → ℕ → ℕ) (join : Bool → Bool → Bool) → ((old word k : ℕ) → (bit_at (op old word) k == 1) ≡ join (bit_at old k == 1) (bit_at word k == 1)) →
    (first row : List ℕ) (other : ℕ → Bool) (i word : ℕ) → i < length row → ((k : ℕ) → i ≤ k → slice_index row k ≡ slice_index first k) →
    ((e : ℕ) → e / 64 < i → is_set row e ≡ join (is_set first e) (other e)) → ((e : ℕ) → e / 64 ≡ i → (bit_at word (e % 64) == 1) ≡ other e) →
    (e : ℕ) → e / 64 < i + 1 → is_set (set row i (op (slice_index row i) word)) e ≡ join (is_set first e) (other e)
joined-word op join joins first row other i word here rest before bits e below = elim (cases_eq (e / 64) i) [
  | inl same ↦
      let old = slice_index row i in
      ap (λ w. bit_at w (e % 64) == 1) (ap (slice_index (set row i (op old word))) same ∙ get_or-set_same row i (op old word) 0 here)
      ∙ joins old word (e % 64)
      ∙ ap₂ join (ap (λ w. bit_at w (e % 64) == 1) (rest i (omega arith) ∙ ap (slice_index first) (sym same))) (bits e same)
  | inr differs ↦ ap (λ w. bit_at w (e % 64) == 1) (get_or-set_other row i (e / 64) (op (slice_index row i) word) 0 differs) ∙ before e (omega arith)
]

-- ---- numbers below a count that pass a test

-- one number more, of which the test is made
pub one_more : (test : ℕ → Bool) (o e : ℕ) (holds : Bool) → holds ≡ test o → ((test e && nat_lt e o) || (e == o && holds)) ≡ (test e && nat_lt e (o + 1))
one_more test o e holds is = elim (cases_eq e o) [
  | inl same ↦ let here : holds ≡ test e = is ∙ ap test (sym same) in grind (arith, nat_tests)
  | inr other ↦ grind (arith, nat_tests)
]
