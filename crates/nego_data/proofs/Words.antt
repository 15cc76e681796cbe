-- Laws of tables that are kept in words.
use borrow.Rule.Slice.PartMut.{put_mid}
use Rattle.std.proofs.Common.{◌≡◌, ◌⊎◌, inl, inr, ℕ, ◌+◌, ◌-◌, ◌*◌, ◌/◌, ◌%◌, ◌^◌, ◌<◌, ◌≤◌, Bool, true, false, ◌&&◌, ◌||◌, ◌==◌, List, [], length, replicate, slice_index, refl, sym, subst, ap, ap₂, ◌∙◌, arith, eq-eqb}
use Rattle.std.specs.Prelude.{bit_and}
use Rattle.std.specs.Int.{bit_at}
use Rattle.std.specs.List.{between}
use Rattle.std.proofs.lemmas.Bool.{cases_lt, cases_order, ne_eqb}
use Rattle.std.proofs.lemmas.List.{get_or-replicate, get_or_past, get_or-take, get_or-drop, length-append, length-drop, length-replicate, length-take}
use Rattle.std.proofs.lemmas.List.Edits.{get_or-between}
use Rattle.std.proofs.lemmas.Nat.{mul-add-lt, row_fits}
use Rattle.std.proofs.lemmas.Nat.Bits.{shr_and_one, bit_at-zero}
use Rattle.std.proofs.lemmas.Slice.{between-put_mid, drop-put_mid, take-put_mid_below}
use Rattle.nego_data.specs.BitRows.{is_set}
use Rattle.nego_data.specs.Tables.{IsTable, is_related, row_words, word_place, has_bit, rows_of_words, IsPacked}
use Rattle.nego_data.proofs.Tables.{length-rows_by, rows_by-related, rows_by-table, same_tables, empty-table, empty-related}

-- the word of a joint data's bit is one of the row's
pub word_in_row : (count e : ℕ) → e < count → e / 64 < row_words count
word_in_row count e h = omega (arith, h)

-- the word of a bit is one of the words
pub word_place-below : (count d e : ℕ) (words : List ℕ) → IsPacked count words → d < count → e < count → word_place count d e < length words
word_place-below count d e words packed h k =
    let place = mul-add-lt d (row_words count) (e / 64) count h (word_in_row count e k) in
    omega (arith, place, packed.enough)

-- a number of a list of zeros is 0
at-zeros : (n k : ℕ) → slice_index (replicate n 0) k ≡ 0
at-zeros n k = elim (cases_lt k n) [
  | inl h ↦ get_or-replicate n k 0 0 h
  | inr h ↦ get_or_past (replicate n 0) k 0 (subst (λ m. m ≤ k) (sym (length-replicate n 0)) h)
]

-- no bit of zeros is set
zeros-has_bit : (count n d e : ℕ) → has_bit count (replicate n 0) d e ≡ false
zeros-has_bit count n d e =
    ap (λ b. b == 1) (ap (λ word. bit_at word (e % 64)) (at-zeros n (word_place count d e)) ∙ bit_at-zero (e % 64))

-- ---- the table that is kept in words

module _ (count : ℕ) (words : List ℕ) where
  -- it has a row for each joint data
  pub length-rows_of_words : length (rows_of_words count words) ≡ count
  unfolding rows_of_words
  length-rows_of_words = length-rows_by count (has_bit count words)

  -- it relates joint data whose bit is set
  pub rows_of_words-related : (d e : ℕ) → d < count → e < count → is_related (rows_of_words count words) d e ≡ has_bit count words d e
  unfolding rows_of_words
  rows_of_words-related d e h k = rows_by-related count (has_bit count words) d e h k

  -- it is a table
  pub rows_of_words-table : IsTable count (rows_of_words count words)
  unfolding rows_of_words
  rows_of_words-table = rows_by-table count (has_bit count words)

-- words without a bit are the table of empty rows
pub rows_of_zeros : (count n : ℕ) → rows_of_words count (replicate n 0) ≡ replicate count []
rows_of_zeros count n = same_tables count (rows_of_words count (replicate n 0)) (replicate count []) (rows_of_words-table count (replicate n 0)) (empty-table count) (λ d e h k.
    rows_of_words-related count (replicate n 0) d e h k ∙ zeros-has_bit count n d e ∙ sym (empty-related count d e))

-- ---- words with another row

-- the words of a row are among the words
pub row_in_words : (count : ℕ) (words : List ℕ) (d : ℕ) → IsPacked count words → d < count → d * row_words count + row_words count ≤ length words
row_in_words count words d packed h =
    let fits = row_fits d (row_words count) count (row_words count) h (omega arith) in
    omega (arith, fits, packed.enough)

-- how many words there are
length-with_row : (words row : List ℕ) (start : ℕ) → start + length row ≤ length words → length (put_mid start (length row) words row) ≡ length words
length-with_row words row start h = simp (length-append, length-take, length-drop) (omega arith)

module _ (count : ℕ) (words row : List ℕ) (d : ℕ) (packed : IsPacked count words) (h : d < count) (as_long : length row ≡ row_words count) where
  -- where the row begins and ends
  abbrev start : ℕ
  start = d * row_words count

  abbrev past : ℕ
  past = d * row_words count + row_words count

  -- the words with the row as that of d
  abbrev new : List ℕ
  new = put_mid (d * row_words count) (row_words count) words row

  start_within : start ≤ length words
  start_within = let fits = row_in_words count words d packed h in omega (arith, fits)

  -- the words of d are the row's
  in_row : (e : ℕ) → e < count → slice_index new (word_place count d e) ≡ slice_index row (e / 64)
  in_row e k =
      let within = word_in_row count e k in
      sym (get_or-between new start past (e / 64) 0 (omega (arith, within)))
      ∙ ap (λ xs. slice_index xs (e / 64)) (between-put_mid start (row_words count) words row past start_within (omega (arith, as_long)))

  -- the other words are as before
  off_row : (n : ℕ) → (n < start) ⊎ (past ≤ n) → slice_index new n ≡ slice_index words n
  off_row n (inl before) =
      sym (get_or-take start new n 0 before) ∙ ap (λ xs. slice_index xs n) (take-put_mid_below start (row_words count) words row start (omega arith) start_within)
      ∙ get_or-take start words n 0 before
  off_row n (inr after) =
      let sum : past + (n - past) ≡ n = omega (arith, after) in
      ap (slice_index new) (sym sum) ∙ sym (get_or-drop past new (n - past) 0)
      ∙ ap (λ xs. slice_index xs (n - past)) (drop-put_mid start (row_words count) words row past (omega arith) start_within as_long)
      ∙ get_or-drop past words (n - past) 0 ∙ ap (slice_index words) sum

  -- a word of another row is outside the row
  apart : (c e : ℕ) → e < count → (c < d) ⊎ (d < c) → (word_place count c e < start) ⊎ (past ≤ word_place count c e)
  apart c e k (inl less) = inl (let fits = row_fits c (row_words count) d (row_words count) less (omega arith) in let within = word_in_row count e k in omega (arith, fits, within))
  apart c e k (inr more) = inr (let fits = row_fits d (row_words count) c (row_words count) more (omega arith) in omega (arith, fits))

  -- which bits are set, where the row is the old one with some added
  pub has_bit-with_row : (added : ℕ → Bool) → ((e : ℕ) → e / 64 < row_words count → is_set row e ≡ (is_set (between start past words) e || added e)) →
      (c e : ℕ) → c < count → e < count → has_bit count new c e ≡ (has_bit count words c e || (c == d && added e))
  has_bit-with_row added bits c e l k = elim (cases_order c d) [
    | inl same ↦
        let within = word_in_row count e k in
        ap (λ n. has_bit count new n e) same ∙ ap (λ w. bit_at w (e % 64) == 1) (in_row e k) ∙ bits e within
        ∙ ap₂ ◌||◌
        (ap (λ w. bit_at w (e % 64) == 1) (get_or-between words start past (e / 64) 0 (omega (arith, within))) ∙ ap (λ n. has_bit count words n e) (sym same))
        (sym (ap (λ b. b && added e) (eq-eqb c d same)))
    | inr other ↦
        ap (λ w. bit_at w (e % 64) == 1) (off_row (word_place count c e) (apart c e k other)) ∙ untouched (has_bit count words c e)
        ∙ ap (λ b. has_bit count words c e || (b && added e)) (sym (ne_eqb c d (differ c other)))
  ]
    where
      differ : (c : ℕ) → (c < d) ⊎ (d < c) → c ≡ d → ⊥
      differ c (inl less) same = omega (arith, less, same)
      differ c (inr more) same = omega (arith, more, same)

      untouched : (b : Bool) → b ≡ (b || (false && added e))
      untouched true = refl
      untouched false = refl

  -- they are rows too
  pub packed-with_row : IsPacked count new
  packed-with_row = record {
    few = packed.few;
    enough = ap (λ n. length (put_mid start n words row)) (sym as_long)
        ∙ length-with_row words row start (let fits = row_in_words count words d packed h in omega (arith, fits, as_long)) ∙ packed.enough;
  }

-- ---- a table whose words are looked at

module _ (count : ℕ) (words : List ℕ) (table : List (List ℕ)) (packed : IsPacked count words) (seen : rows_of_words count words ≡ table) (d e : ℕ) (h : d < length table) (k : e < length table) where
  -- the table has a row for each joint data
  pub length_seen : length table ≡ count
  length_seen = ap length (sym seen) ∙ length-rows_of_words count words

  from_below : d < count
  from_below = omega (arith, h, length_seen)

  to_below : e < count
  to_below = omega (arith, k, length_seen)

  -- the word of the bit for d and e is there
  pub place_seen : word_place count d e < length words
  place_seen = word_place-below count d e words packed from_below to_below

  -- the bit for d and e tells whether they are related
  pub bit_seen : (word : ℕ) → word ≡ slice_index words (word_place count d e) → bit_and (word / 2 ^ (e % 64)) 1 == 1 ≡ is_related table d e
  bit_seen word is =
      ap (λ b. b == 1) (shr_and_one word (e % 64) ∙ ap (λ n. bit_at n (e % 64)) is)
      ∙ sym (rows_of_words-related count words d e from_below to_below)
      ∙ ap (λ rows. is_related rows d e) seen

  -- the table is one
  pub table_seen : IsTable (length table) table
  table_seen = subst (λ n. IsTable n table) (sym length_seen) (subst (IsTable count) seen (rows_of_words-table count words))

-- a table whose words are looked at has a row for each joint data
pub rows_seen : (count : ℕ) (words : List ℕ) (table : List (List ℕ)) → rows_of_words count words ≡ table → count ≡ length table
rows_seen count words table seen = sym (ap length (sym seen) ∙ length-rows_of_words count words)

-- and is one
pub is_table_seen : (count : ℕ) (words : List ℕ) (table : List (List ℕ)) → rows_of_words count words ≡ table → IsTable (length table) table
is_table_seen count words table seen = subst (λ n. IsTable n table) (rows_seen count words table seen) (subst (IsTable count) seen (rows_of_words-table count words))

-- a table whose words are looked at, with some added to the row of d
module _ (count : ℕ) (words : List ℕ) (table : List (List ℕ)) (packed : IsPacked count words) (seen : rows_of_words count words ≡ table) (d : ℕ) (h : d < length table) (size : ℕ) (is : size ≡ row_words count) where
  d_below : d < count
  d_below = let rows = rows_seen count words table seen in omega (arith, h, rows)

  -- the words of the row are there
  pub row_there : d * size + size ≤ length words
  row_there = subst (λ n. d * n + n ≤ length words) (sym is) (row_in_words count words d packed d_below)

  module _ (row : List ℕ) (as_long : length row ≡ size) where
    -- the words with the row
    abbrev after : List ℕ
    after = put_mid (d * size) (d * size + size - d * size) words row

    after-is : after ≡ put_mid (d * row_words count) (row_words count) words row
    after-is =
        let rest : d * size + size - d * size ≡ size = omega arith in
        ap (λ k. put_mid (d * size) k words row) rest ∙ ap (λ n. put_mid (d * n) n words row) is

    -- how many they are
    pub length-after : length after ≡ length words
    length-after = ap length after-is ∙ (packed-with_row count words row d packed d_below (as_long ∙ is)).enough ∙ sym packed.enough

    -- what their table relates
    pub related_after : (added : ℕ → Bool) →
        ((e : ℕ) → e / 64 < size → is_set row e ≡ (is_set (between (d * size) (d * size + size) words) e || added e)) →
        (c e : ℕ) → c < length table → e < length table → is_related (rows_of_words count after) c e ≡ (is_related table c e || (c == d && added e))
    related_after added bits c e l k =
        let rows = rows_seen count words table seen in
        let c_below : c < count = omega (arith, l, rows) in
        let e_below : e < count = omega (arith, k, rows) in
        let same_bits = subst (λ n. (f : ℕ) → f / 64 < n → is_set row f ≡ (is_set (between (d * n) (d * n + n) words) f || added f)) is bits in
        rows_of_words-related count after c e c_below e_below
        ∙ ap (λ ws. has_bit count ws c e) after-is
        ∙ has_bit-with_row count words row d packed d_below (as_long ∙ is) added same_bits c e c_below e_below
        ∙ ap (λ b. b || (c == d && added e)) (sym (rows_of_words-related count words c e c_below e_below) ∙ ap (λ rows. is_related rows c e) seen)
