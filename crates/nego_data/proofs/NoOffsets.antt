-- The offsets of a case that leaves no agent free.
use Rattle.std.proofs.Common.{◌≡◌, ⊎_elim, ℕ, zero, suc, ◌+◌, ◌%◌, ◌<◌, ◌≤◌, Bool, true, ◌||◌, ◌==◌, List, [], ◌∷◌, length, slice_index, ap, sym, refl, ◌∙◌, arith, eqb-true, eq-eqb, lt-ltb, ltb-true}
use Rattle.std.proofs.lemmas.Bool.{and_parts, and_from, or_cases, or_left}
use Rattle.std.specs.List.{list_any, range_with_len}
use Rattle.nego_base.specs.Members.{is_in}
use Rattle.nego_base.proofs.BoolLaws.{same_tests}
use Rattle.nego_base.proofs.Members.{is_in_none, any_at, any_from, is_in-filter, is_in-range_zero, all_at, all_from}
use Rattle.nego_data.specs.Data.{data_count, split}
use Rattle.nego_data.specs.Sizes.{tuple_of}
use Rattle.nego_data.specs.Given.{offsets_of, is_offset}
use Rattle.nego_data.proofs.JointData.{same_data}
use Rattle.nego_data.proofs.Tuples.{at-tuple_of}

-- where no agent is free, the one offset is 0
pub no_offsets : (sizes free : List ℕ) (least e : ℕ) → length sizes ≤ 16 → 0 < data_count sizes → free ≡ [] → (e == least) ≡ list_any (λ o. least + o == e) (offsets_of sizes free)
no_offsets sizes free least e few some none = same_tests (e == least) (list_any (λ o. least + o == e) (offsets_of sizes free)) there back
  where
    zeros : (sizes : List ℕ) (a : ℕ) → slice_index (split sizes 0) a ≡ 0
    zeros [] a = refl
    zeros (size ∷ sizes) zero = omega arith
    zeros (size ∷ sizes) (suc a) = let e : 0 % data_count sizes ≡ 0 = omega arith in ap (λ r. slice_index (split sizes r) a) e ∙ zeros sizes a

    test : ℕ → ℕ → Bool
    test o a = slice_index (tuple_of sizes o) a == 0 || is_in a free

    first : is_in 0 (offsets_of sizes free) ≡ true
    first = is_in-filter (λ n. is_offset free (tuple_of sizes n)) 0 (range_with_len 0 (data_count sizes))
        ∙ and_from (is_offset free (tuple_of sizes 0)) (is_in 0 (range_with_len 0 (data_count sizes)))
        (all_from (test 0) (range_with_len 0 16) (λ a m. or_left (slice_index (tuple_of sizes 0) a == 0) (is_in a free) (eq-eqb (slice_index (tuple_of sizes 0) a) 0 (at-tuple_of sizes 0 a ∙ zeros sizes a))))
        (is_in-range_zero 0 (data_count sizes) ∙ lt-ltb 0 (data_count sizes) some)

    only : (o : ℕ) → is_in o (offsets_of sizes free) ≡ true → o ≡ 0
    only o m =
        let parts = and_parts (is_offset free (tuple_of sizes o)) (is_in o (range_with_len 0 (data_count sizes))) (sym (is_in-filter (λ n. is_offset free (tuple_of sizes n)) o (range_with_len 0 (data_count sizes))) ∙ m) in
        let below = ltb-true o (data_count sizes) (sym (is_in-range_zero o (data_count sizes)) ∙ parts.1) in
        same_data sizes o 0 below some (λ a h. zero-at a parts.0 (omega (arith, h, few)) ∙ sym (zeros sizes a))
      where
        zero-at : (a : ℕ) → is_offset free (tuple_of sizes o) ≡ true → a < 16 → slice_index (split sizes o) a ≡ 0
        zero-at a all near =
            let here = all_at (test o) (range_with_len 0 16) a all (is_in-range_zero a 16 ∙ lt-ltb a 16 near) in
            sym (at-tuple_of sizes o a) ∙ eqb-true (slice_index (tuple_of sizes o) a) 0
            (⊎_elim (λ z. z) (λ f. absurd (is_in_none a free none f)) (or_cases (slice_index (tuple_of sizes o) a == 0) (is_in a free) here))

    there : (e == least) ≡ true → list_any (λ o. least + o == e) (offsets_of sizes free) ≡ true
    there h = any_from (λ o. least + o == e) (offsets_of sizes free) 0 first (eq-eqb (least + 0) e (let q = eqb-true e least h in omega (arith, q)))

    back : list_any (λ o. least + o == e) (offsets_of sizes free) ≡ true → (e == least) ≡ true
    back h =
        let found = any_at (λ o. least + o == e) (offsets_of sizes free) h in
        let nothing = only found.0 found.1 in
        let sum = eqb-true (least + found.0) e found.2 in
        eq-eqb e least (omega (arith, nothing, sum))
