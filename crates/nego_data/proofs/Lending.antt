-- Laws of rows that are lent: the joint data to which some are related, from the row of the parties' values.
use Rattle.std.proofs.Common.{◌≡◌, ◌⊎◌, inl, inr, ℕ, ◌+◌, ◌-◌, ◌*◌, ◌/◌, ◌%◌, ◌<◌, ◌≤◌, Bool, true, false, ◌&&◌, ◌==◌, nat_lt, List, [], length, map, slice_index, slice_index_or, refl, sym, subst, ap, ap₂, ◌∙◌, arith, lt-ltb}
use Rattle.std.specs.Prelude.{if◌then◌else◌}
use Rattle.std.specs.Int.{bit_at}
use Rattle.std.specs.List.{All, between, range_with_len}
use Rattle.std.proofs.lemmas.Bool.{and_parts, and_from, cases_Bool}
use Rattle.std.proofs.lemmas.List.{take_at, get_or_default}
use Rattle.std.proofs.lemmas.List.Edits.{get_or-between}
use Rattle.std.proofs.lemmas.List.FromFn.{get_or-map-range_with_len, length-map-range_with_len}
use Rattle.nego_base.specs.Members.{is_in, IsRisingBelow}
use Rattle.nego_base.proofs.BoolLaws.{same_tests}
use Rattle.nego_base.proofs.Members.{same_below, All-members}
use Rattle.nego_data.specs.BitRows.{is_set}
use Rattle.nego_data.specs.Data.{data_count, split, joint}
use Rattle.nego_data.specs.Lent.{spread_of, AreNarrower, IsMoved}
use Rattle.nego_data.specs.Parts.{part_sizes, part_number, are_kept, widened, IsPart}
use Rattle.nego_data.specs.Sizes.{AreSizes, AreBelow, tuple_of}
use Rattle.nego_data.specs.Tables.{IsTable, IsPacked, is_related, row_words, rows_of_words}
use Rattle.nego_data.proofs.Counts.{joint-front}
use Rattle.nego_data.proofs.JointData.{AreValues, length-split, split-below, joint-split, joint-below, split-joint, same_data, joint-sum}
use Rattle.nego_data.proofs.PartLaws.{length-part, at-part, part-sizes, split-number, number-below, kept-at, kept-from, datum-below, widened-table, widened-related, length-widened}
use Rattle.nego_data.proofs.Tables.{row-on_data, row-rises_below}
use Rattle.nego_data.proofs.Words.{word_in_row, rows_seen, is_table_seen, rows_of_words-related}

-- ---- a row of words

module _ (count : ℕ) (words : List ℕ) (table : List (List ℕ)) (packed : IsPacked count words) (seen : rows_of_words count words ≡ table) (d : ℕ) (h : d < length table) (size : ℕ) (is : size ≡ row_words count) where
  -- the set of the numbers whose bits are set in a row of words is the row
  pub lent-row : (row : List ℕ) → IsRisingBelow count row → ((e : ℕ) → is_in e row ≡ (is_set (between (d * size) (d * size + size) words) e && nat_lt e count)) → row ≡ slice_index_or table d []
  lent-row row rises each =
      same_below count row (slice_index_or table d []) rises (row-rises_below count table d (subst (λ n. IsTable n table) (sym long) (is_table_seen count words table seen)) below) (λ e k.
      let within = word_in_row count e k in
      let piece : List ℕ = between (d * row_words count) (d * row_words count + row_words count) words in
      subst (λ n. is_in e row ≡ (is_set (between (d * n) (d * n + n) words) e && nat_lt e count)) is (each e)
      ∙ ap (λ b. is_set piece e && b) (lt-ltb e count k)
      ∙ and_true (is_set piece e)
      ∙ ap (λ w. bit_at w (e % 64) == 1) (get_or-between words (d * row_words count) (d * row_words count + row_words count) (e / 64) 0 (omega (arith, within)))
      ∙ sym (rows_of_words-related count words d e below k)
      ∙ ap (λ t. is_related t d e) seen)
    where
      long : count ≡ length table
      long = rows_seen count words table seen

      below : d < count
      below = omega (arith, h, long)

      and_true : (b : Bool) → (b && true) ≡ b
      and_true true = refl
      and_true false = refl

-- ---- the parties' numbers among all joint data

-- the parties' sizes are at most all sizes
pub part-narrower : (parties sizes : List ℕ) → AreSizes sizes → AreNarrower (part_sizes parties sizes) sizes
part-narrower parties sizes ok = record {
  as_many = length-part parties sizes;
  each = λ a h. less (is_in a parties) (slice_index sizes a) (slice_index (part_sizes parties sizes) a) (at-part parties sizes a h) (ok.each a 0 h).0;
}
  where
    less : (b : Bool) (size part : ℕ) → part ≡ (if b then size else 1) → 0 < size → part ≤ size
    less true size part e h = omega (arith, e)
    less false size part e h = omega (arith, e, h)

pub is_part-narrower : (parties sizes own : List ℕ) (rows : List (List ℕ)) → IsPart parties sizes own rows → AreNarrower own sizes
is_part-narrower parties sizes own rows is = subst (λ p. AreNarrower p sizes) (sym is.part_is) (part-narrower parties sizes is.sizes)

-- what is below sizes is below those that are no less
pub narrower-below : (part whole : List ℕ) → AreNarrower part whole → (values : List ℕ) → AreBelow part values → AreBelow whole values
narrower-below part whole narrower values below a h =
    let less = below a (subst (λ n. a < n) (sym narrower.as_many) h) in
    let more = narrower.each a h in
    omega (arith, less, more)

-- the joint data of a tuple are those of its values
joint-tuple : (sizes part : List ℕ) (n : ℕ) → length part ≡ length sizes → joint sizes (tuple_of part n) ≡ joint sizes (split part n)
unfolding tuple_of
joint-tuple sizes part n same =
    sym (joint-front sizes (tuple_of part n)) ∙ ap (joint sizes) (take_at (split part n) _ (length sizes) (length-split part n ∙ same))

module _ (parties sizes : List ℕ) (ok : AreSizes sizes) where
  abbrev part : List ℕ
  part = part_sizes parties sizes

  -- where the number of the parties' values stands
  abbrev at : ℕ → ℕ
  at n = joint sizes (split part n)

  -- joint data with the same values of everyone else are as far from each other as their parties' numbers stand
  pub as_far : (d f : ℕ) → d < data_count sizes → f < data_count sizes → are_kept parties (tuple_of sizes d) (tuple_of sizes f) ≡ true →
      f + at (part_number parties sizes d) ≡ d + at (part_number parties sizes f)
  as_far d f h k kept =
      ap (λ n. n + at (part_number parties sizes d)) (sym (joint-split sizes f k))
      ∙ sym (joint-sum sizes (split sizes f) (split part (part_number parties sizes d)) both (length-split sizes f) (long d) all (λ a l. at-both a l))
      ∙ joint-sum sizes (split sizes d) (split part (part_number parties sizes f)) both (length-split sizes d) (long f) all (λ a l. at-both a l ∙ turned a l (cases_Bool (is_in a parties)))
      ∙ ap (λ n. n + at (part_number parties sizes f)) (joint-split sizes d h)
    where
      both : List ℕ
      both = map (λ a. slice_index (split sizes f) a + slice_index (split part (part_number parties sizes d)) a) (range_with_len 0 (length sizes))

      all : length both ≡ length sizes
      all = length-map-range_with_len (λ a. slice_index (split sizes f) a + slice_index (split part (part_number parties sizes d)) a) 0 (length sizes)

      long : (e : ℕ) → length (split part (part_number parties sizes e)) ≡ length sizes
      long e = length-split part (part_number parties sizes e) ∙ length-part parties sizes

      at-both : (a : ℕ) → a < length sizes → slice_index both a ≡ slice_index (split sizes f) a + slice_index (split part (part_number parties sizes d)) a
      at-both a l = get_or-map-range_with_len (λ a. slice_index (split sizes f) a + slice_index (split part (part_number parties sizes d)) a) 0 (length sizes) a a 0 l (omega arith)

      turned : (a : ℕ) → a < length sizes → (is_in a parties ≡ true) ⊎ (is_in a parties ≡ false) →
          slice_index (split sizes f) a + slice_index (split part (part_number parties sizes d)) a ≡ slice_index (split sizes d) a + slice_index (split part (part_number parties sizes f)) a
      turned a l (inl party) =
          let one = split-number parties sizes ok d a h l ∙ ap (λ b. if b then slice_index (split sizes d) a else 0) party in
          let two = split-number parties sizes ok f a k l ∙ ap (λ b. if b then slice_index (split sizes f) a else 0) party in
          omega (arith, one, two)
      turned a l (inr other) =
          let one = split-number parties sizes ok d a h l ∙ ap (λ b. if b then slice_index (split sizes d) a else 0) other in
          let two = split-number parties sizes ok f a k l ∙ ap (λ b. if b then slice_index (split sizes f) a else 0) other in
          let same = kept-at parties sizes ok d f kept a l other in
          omega (arith, one, two, same)

  -- there are joint data with any values of the parties, and everyone else's of some
  pub moved-to : (d n : ℕ) → d < data_count sizes → n < data_count part →
      (e : ℕ) × (e < data_count sizes) × (part_number parties sizes e ≡ n) × (are_kept parties (tuple_of sizes d) (tuple_of sizes e) ≡ true)
  moved-to d n h k = (joint sizes values, joint-below sizes values are, number, kept)
    where
      value : ℕ → ℕ
      value a = if is_in a parties then slice_index (split part n) a else slice_index (split sizes d) a

      values : List ℕ
      values = map value (range_with_len 0 (length sizes))

      at-values : (a : ℕ) → a < length sizes → slice_index values a ≡ value a
      at-values a l = get_or-map-range_with_len value 0 (length sizes) a a 0 l (omega arith)

      value-below : (a : ℕ) (b : Bool) → a < length sizes → is_in a parties ≡ b → value a < slice_index sizes a
      value-below a true l is =
          let size = at-part parties sizes a l ∙ ap (λ b. if b then slice_index sizes a else 1) is in
          let below = split-below part n a k (subst (λ m. a < m) (sym (length-part parties sizes)) l) in
          subst (λ v. v < slice_index sizes a) (sym (ap (λ b. if b then slice_index (split part n) a else slice_index (split sizes d) a) is)) (omega (arith, size, below))
      value-below a false l is =
          subst (λ v. v < slice_index sizes a) (sym (ap (λ b. if b then slice_index (split part n) a else slice_index (split sizes d) a) is)) (split-below sizes d a h l)

      are : AreValues sizes values
      are = record {
        as_many = length-map-range_with_len value 0 (length sizes);
        below = λ a l. subst (λ v. v < slice_index sizes a) (sym (at-values a l)) (value-below a (is_in a parties) l refl);
      }

      e : ℕ
      e = joint sizes values

      split-e : (a : ℕ) → a < length sizes → slice_index (split sizes e) a ≡ value a
      split-e a l = ap (λ vs. slice_index vs a) (split-joint sizes values are) ∙ at-values a l

      kept : are_kept parties (tuple_of sizes d) (tuple_of sizes e) ≡ true
      kept = kept-from parties sizes ok d e (λ a l other. sym (split-e a l ∙ ap (λ b. if b then slice_index (split part n) a else slice_index (split sizes d) a) other))

      number : part_number parties sizes e ≡ n
      number = same_data part (part_number parties sizes e) n (number-below parties sizes ok e (joint-below sizes values are)) k (λ a m.
          let l : a < length sizes = subst (λ z. a < z) (length-part parties sizes) m in
          split-number parties sizes ok e a (joint-below sizes values are) l ∙ ap (λ v. if is_in a parties then v else 0) (split-e a l) ∙ here a l (is_in a parties) refl)
        where
          here : (a : ℕ) → a < length sizes → (b : Bool) → is_in a parties ≡ b → (if b then (if b then slice_index (split part n) a else slice_index (split sizes d) a) else 0) ≡ slice_index (split part n) a
          here a l true is = refl
          here a l false is =
              let size = at-part parties sizes a l ∙ ap (λ b. if b then slice_index sizes a else 1) is in
              let below = split-below part n a k (subst (λ m. a < m) (sym (length-part parties sizes)) l) in
              omega (arith, size, below)

-- ---- the rows of all joint data

module _ (parties sizes own : List ℕ) (rows table : List (List ℕ)) (is : IsPart parties sizes own rows) (seen : widened parties sizes rows ≡ table) (spread : List ℕ) (are : spread ≡ spread_of sizes own) (d number : ℕ) (h : d < length table)
    (number_is : number ≡ part_number parties sizes d) where
  abbrev count : ℕ
  count = data_count sizes

  abbrev row : List ℕ
  row = slice_index_or rows number []

  below : d < count
  below = datum-below parties sizes own rows table is seen d h

  own-below : (n : ℕ) → n < data_count own → n < data_count (part_sizes parties sizes)
  own-below n k = subst (λ p. n < data_count p) is.part_is k

  number-inside : number < data_count own
  number-inside = subst (λ p. number < data_count p) (sym is.part_is) (subst (λ n. n < data_count (part_sizes parties sizes)) (sym number_is) (number-below parties sizes is.sizes d below))

  in_row : (n : ℕ) → is_in n row ≡ true → n < data_count own
  in_row n m = row-on_data (data_count own) rows number n is.rows number-inside m

  few : data_count sizes ≤ 1024
  few = is.sizes.together

  few-own : data_count own ≤ 1024
  few-own = subst (λ p. data_count p ≤ 1024) (sym is.part_is) (part-sizes parties sizes is.sizes).together

  pub length-spread : length spread ≡ data_count own
  length-spread = ap length are ∙ length-map-range_with_len (λ n. joint sizes (tuple_of own n)) 0 (data_count own)

  at-spread : (n : ℕ) → n < data_count own → slice_index spread n ≡ joint sizes (split (part_sizes parties sizes) n)
  at-spread n k =
      ap (λ xs. slice_index xs n) are ∙ get_or-map-range_with_len (λ n. joint sizes (tuple_of own n)) 0 (data_count own) n n 0 k (omega arith)
      ∙ ap (λ p. joint sizes (tuple_of p n)) is.part_is ∙ joint-tuple sizes (part_sizes parties sizes) n (length-part parties sizes)

  -- a number of the row is moved to joint data
  moved-number : (n : ℕ) → n < data_count own → (e : ℕ) × (e < count) × (part_number parties sizes e ≡ n) × (are_kept parties (tuple_of sizes d) (tuple_of sizes e) ≡ true) × (e + slice_index spread number ≡ d + slice_index spread n)
  moved-number n k =
      let to = moved-to parties sizes is.sizes d n below (own-below n k) in
      let far = as_far parties sizes is.sizes d to.0 below to.1 to.3 in
      let here = at-spread number number-inside ∙ ap (λ n. joint sizes (split (part_sizes parties sizes) n)) number_is in
      let there = at-spread n k ∙ ap (λ n. joint sizes (split (part_sizes parties sizes) n)) (sym to.2) in
      (to.0, to.1, to.2, to.3, omega (arith, far, here, there))

  pub fits-number : number < length spread
  fits-number = subst (λ n. number < n) (sym length-spread) number-inside

  pub fits-spread : length spread ≤ 1024
  fits-spread = let long = length-spread in let less = few-own in omega (arith, long, less)

  -- each of them stands at joint data
  pub fits-small : All (λ e. e < 1024) spread
  fits-small k default h =
      let inside : k < data_count own = subst (λ n. k < n) length-spread h in
      let narrower = part-narrower parties sizes is.sizes in
      let are-values : AreValues sizes (split (part_sizes parties sizes) k) = record {
        as_many = length-split (part_sizes parties sizes) k ∙ length-part parties sizes;
        below = narrower-below (part_sizes parties sizes) sizes narrower (split (part_sizes parties sizes) k) (λ a l. split-below (part_sizes parties sizes) k a (own-below k inside) l);
      } in
      let less = joint-below sizes (split (part_sizes parties sizes) k) are-values in
      let most = few in
      let place = get_or_default spread k default 0 h ∙ at-spread k inside in
      omega (arith, less, most, place)

  pub fits-start : d < 1024
  fits-start = let less = few in let here = below in omega (arith, less, here)

  pub fits-moved : (n : ℕ) → is_in n row ≡ true → (n < length spread) × (slice_index spread number ≤ d + slice_index spread n) × (d + slice_index spread n < slice_index spread number + 1024)
  fits-moved n m =
      let k = in_row n m in
      let long = length-spread in
      let to = moved-number n k in
      let less = few in
      let inside = to.1 in
      let far = to.4 in
      (omega (arith, k, long), omega (arith, far), omega (arith, far, less, inside))

  -- the moved row is that of all joint data
  pub lent-moved : (moved : List ℕ) → IsMoved row spread d number moved → moved ≡ slice_index_or table d []
  lent-moved moved ok = same_below count moved (slice_index_or table d []) (record { rising = ok.rising.rising; below = All-members (λ e. e < count) moved (λ e m. (found e m).0) }) (row-rises_below count table d whole below) (λ f k.
      same_tests (is_in f moved) (is_related table d f)
      (λ m. related-as f k ∙ (found f m).1)
      (λ r.
      let both = and_parts (are_kept parties (tuple_of sizes d) (tuple_of sizes f)) (is_related rows (part_number parties sizes d) (part_number parties sizes f)) (sym (related-as f k) ∙ r) in
      let m : is_in (part_number parties sizes f) row ≡ true = ap (λ n. is_related rows n (part_number parties sizes f)) number_is ∙ both.1 in
      let inside = in_row (part_number parties sizes f) m in
      let far = as_far parties sizes is.sizes d f below k both.0 in
      let here = at-spread number number-inside ∙ ap (λ n. joint sizes (split (part_sizes parties sizes) n)) number_is in
      let there = at-spread (part_number parties sizes f) inside in
      let place : d + slice_index spread (part_number parties sizes f) - slice_index spread number ≡ f = omega (arith, far, here, there) in
      ap (λ n. is_in n moved) (sym place) ∙ ok.complete (part_number parties sizes f) m))
    where
      whole : IsTable count table
      whole = subst (IsTable count) seen (subst (λ n. IsTable n (widened parties sizes rows)) (length-widened parties sizes rows) (widened-table parties sizes rows))

      related-as : (f : ℕ) → f < count → is_related table d f ≡ (are_kept parties (tuple_of sizes d) (tuple_of sizes f) && is_related rows (part_number parties sizes d) (part_number parties sizes f))
      related-as f k = ap (λ t. is_related t d f) (sym seen) ∙ widened-related parties sizes rows d f below k

      found : (f : ℕ) → is_in f moved ≡ true → (f < count) × ((are_kept parties (tuple_of sizes d) (tuple_of sizes f) && is_related rows (part_number parties sizes d) (part_number parties sizes f)) ≡ true)
      found f m =
          let from = ok.sound f m in
          let to = moved-number from.0 (in_row from.0 from.1) in
          let far = to.4 in
          let far' = from.2 in
          let same : to.0 ≡ f = omega (arith, far, far') in
          let number_e : part_number parties sizes to.0 ≡ from.0 = to.2 in
          let r : is_related rows (part_number parties sizes d) (part_number parties sizes to.0) ≡ true = ap₂ (is_related rows) (sym number_is) number_e ∙ from.1 in (
            subst (λ n. n < count) same to.1,
            subst (λ n. (are_kept parties (tuple_of sizes d) (tuple_of sizes n) && is_related rows (part_number parties sizes d) (part_number parties sizes n)) ≡ true) same
                (and_from (are_kept parties (tuple_of sizes d) (tuple_of sizes to.0)) (is_related rows (part_number parties sizes d) (part_number parties sizes to.0)) to.3 r),
          )
