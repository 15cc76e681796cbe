-- The first fault of sizes, and what no fault says of them.
use Rattle.std.proofs.Common.{◌≡◌, ℕ, zero, suc, ◌+◌, ◌-◌, ◌*◌, ◌<◌, ◌≤◌, ◌==◌, nat_lt, false, List, ◌++◌, length, take, replicate, get_or, slice_index, Option, Some, None, Result, Ok, Err, inl, inr, refl, sym, subst, ap, ◌∙◌, arith, lt-ltb}
use Rattle.std.specs.List.{position, All}
use Rattle.std.specs.Option.{option_or, option_map}
use Rattle.std.specs.Result.{IfErr, result_err}
use Rattle.std.proofs.lemmas.Bool.{cases_lt, eqb-false, ltb-false, ltb-true, le-ltb, ne_eqb}
use Rattle.std.proofs.lemmas.List.{length-append, length-replicate, take_at, take_all}
use Rattle.std.proofs.lemmas.Option.{none-some, same_Some}
use native.Mathlib.Nat.{mul-le-mul_left}
use Rattle.nego_base.proofs.Firsts.{first_in_range, none_in_range, found_in_range, none_first, position_none}
use Rattle.nego_data.specs.declared.joint_data.SizeFault.{SizeFault}
use Rattle.nego_data.specs.declared.joint_data.SizeFault.TheVariants.{ZeroSize, SizeTooLarge, JointTooLarge}
use Rattle.nego_data.specs.Data.{data_count}
use Rattle.nego_data.specs.Sizes.{AreSizes, HasFault, place_past_joint, fault_of_sizes, FirstFaultIsSo}
use Rattle.nego_data.specs.Kept.{AreKept}
use Rattle.nego_data.proofs.Counts.{data_count_more}

-- sizes of which none is 0 are above 0
pub no_zero : (sizes : List ℕ) → position (λ size. size == 0) sizes ≡ None → All (λ size. 0 < size) sizes
no_zero sizes e k d h = let q = eqb-false (get_or sizes k d) 0 (position_none (λ size. size == 0) sizes e k d h) in omega (arith, q)

-- sizes of which none is 0 or too large are in their bounds
pub all_in_bounds : (sizes : List ℕ) → position (λ size. size == 0) sizes ≡ None → position (λ size. nat_lt 64 size) sizes ≡ None → All (λ size. (0 < size) × (size ≤ 64)) sizes
all_in_bounds sizes e f k d h = (no_zero sizes e k d h, ltb-false 64 (get_or sizes k d) (position_none (λ size. nat_lt 64 size) sizes f k d h))

-- sizes in their bounds whose product is small are kept
pub kept_from_bounds : (sizes : List ℕ) (all : ℕ) → 0 < length sizes → length sizes ≤ 16 → All (λ size. (0 < size) × (size ≤ 64)) sizes → all ≡ data_count sizes → all ≤ 1024 →
    AreKept (record { count = length sizes; sizes = sizes ++ replicate (16 - length sizes) 0; all = all })
kept_from_bounds sizes all some few bounds is small = record {
  sixteen = let k = length-append sizes (replicate (16 - length sizes) 0) in omega (arith, k, length-replicate {A = ℕ} (16 - length sizes) 0, few);
  counted = few;
  are_sizes = subst AreSizes (sym same) (record { some_agent = some; few_agents = few; each = bounds; together = omega (arith, is, small) });
  padded = ap (λ xs. xs ++ replicate (16 - length sizes) 0) (sym same);
  product = is ∙ ap data_count (sym same);
}
  where
    same : take (length sizes) (sizes ++ replicate (16 - length sizes) 0) ≡ sizes
    same = take_at sizes (replicate (16 - length sizes) 0) (length sizes) refl

-- ---- the first fault

-- the product of fewer sizes is at most that of more
less_of_more : (sizes : List ℕ) (k n : ℕ) → All (λ size. 0 < size) sizes → k ≤ n → n ≤ length sizes → data_count (take k sizes) ≤ data_count (take n sizes)
less_of_more sizes k zero some low within = let e : k ≡ 0 = omega (arith, low) in subst (λ i. data_count (take i sizes) ≤ 1) (sym e) (omega arith)
less_of_more sizes k (suc n) some low within = elim (cases_lt n k) [
  | inl last ↦ let e : k ≡ suc n = omega (arith, low, last) in subst (λ i. data_count (take i sizes) ≤ data_count (take (suc n) sizes)) (sym e) (omega arith)
  | inr less ↦
      let there : n < length sizes = omega (arith, within) in
      let one_more : suc n ≡ n + 1 = omega arith in
      let more : data_count (take (suc n) sizes) ≡ data_count (take n sizes) * slice_index sizes n = ap (λ i. data_count (take i sizes)) one_more ∙ data_count_more sizes n there in
      let size : 1 ≤ slice_index sizes n = some n 0 there in
      let before : data_count (take k sizes) ≤ data_count (take n sizes) = less_of_more sizes k n some less (omega (arith, within)) in
      let grows : data_count (take n sizes) * 1 ≤ data_count (take n sizes) * slice_index sizes n = mul-le-mul_left (data_count (take n sizes)) size in
      omega (arith, more, before, grows)
]

-- the place up to which the product passes
pub place_past : (sizes : List ℕ) (k : ℕ) → All (λ size. 0 < size) sizes → k < length sizes → data_count (take k sizes) ≤ 1024 → 1024 < data_count (take (k + 1) sizes) → place_past_joint sizes ≡ Some k
place_past sizes k some within small large =
    first_in_range (λ i. nat_lt 1024 (data_count (take (i + 1) sizes))) 0 (length sizes) k (omega arith) (omega (arith, within))
    (λ i l m. le-ltb 1024 (data_count (take (i + 1) sizes)) (let less = less_of_more sizes (i + 1) k some (omega (arith, m)) (omega (arith, within)) in omega (arith, less, small)))
    (lt-ltb 1024 (data_count (take (k + 1) sizes)) large)

-- none where the product of all is small
pub none_past : (sizes : List ℕ) → All (λ size. 0 < size) sizes → data_count sizes ≤ 1024 → place_past_joint sizes ≡ None
none_past sizes some small =
    none_in_range (λ i. nat_lt 1024 (data_count (take (i + 1) sizes))) 0 (length sizes)
    (λ i l m. le-ltb 1024 (data_count (take (i + 1) sizes)) (let less = less_of_more sizes (i + 1) (length sizes) some (omega (arith, m)) (omega arith) in
    let all : data_count (take (length sizes) sizes) ≡ data_count sizes = ap data_count (take_all (length sizes) sizes (omega arith)) in omega (arith, less, all, small)))

past_small : (sizes : List ℕ) (k : ℕ) → ((i : ℕ) → 0 ≤ i → i < k → nat_lt 1024 (data_count (take (i + 1) sizes)) ≡ false) → data_count (take k sizes) ≤ 1024
past_small sizes zero before = omega arith
past_small sizes (suc k) before =
    let one_more : k + 1 ≡ suc k = omega arith in
    subst (λ i. data_count (take i sizes) ≤ 1024) one_more (ltb-false 1024 (data_count (take (k + 1) sizes)) (before k (omega arith) (omega arith)))

-- the first fault of sizes is one that they have, and they have no other
pub first_fault_is_so : FirstFaultIsSo
first_fault_is_so sizes fault = (to fault, from fault)
  where
    zeros : Option ℕ
    zeros = position (λ size. size == 0) sizes

    larges : Option ℕ
    larges = position (λ size. nat_lt 64 size) sizes

    to : (fault : SizeFault) → fault_of_sizes sizes ≡ Some fault → HasFault sizes fault
    to fault h = of_zeros fault zeros larges (place_past_joint sizes) refl refl refl h
      where
        of_zeros : (fault : SizeFault) (z l p : Option ℕ) → zeros ≡ z → larges ≡ l → place_past_joint sizes ≡ p →
            option_or (option_map (λ k. ZeroSize (record { 0 = k })) z) (option_or (option_map (λ k. SizeTooLarge (record { 0 = k })) l) (option_map (λ k. JointTooLarge (record { 0 = k })) p)) ≡ Some fault → HasFault sizes fault
        of_zeros fault (Some k) l p ez el ep e = subst (HasFault sizes) (same_Some (ZeroSize (record { 0 = k })) fault e) ez
        of_zeros fault None (Some k) p ez el ep e = subst (HasFault sizes) (same_Some (SizeTooLarge (record { 0 = k })) fault e) (no_zero sizes ez, el)
        of_zeros fault None None (Some k) ez el ep e =
            let found = found_in_range (λ i. nat_lt 1024 (data_count (take (i + 1) sizes))) 0 (length sizes) k ep in
            subst (HasFault sizes) (same_Some (JointTooLarge (record { 0 = k })) fault e)
            (all_in_bounds sizes ez el, omega (arith, found.1), past_small sizes k found.3, ltb-true 1024 (data_count (take (k + 1) sizes)) found.2)
        of_zeros fault None None None ez el ep e = absurd (none-some fault e)

    none_zero : All (λ size. 0 < size) sizes → zeros ≡ None
    none_zero some = none_first (λ size. size == 0) sizes (λ k d l. let q : 0 < get_or sizes k d = some k d l in ne_eqb (get_or sizes k d) 0 (λ e. omega (arith, q, e)))

    none_large : All (λ size. size ≤ 64) sizes → larges ≡ None
    none_large few = none_first (λ size. nat_lt 64 size) sizes (λ k d l. le-ltb 64 (get_or sizes k d) (few k d l))

    from : (fault : SizeFault) → HasFault sizes fault → fault_of_sizes sizes ≡ Some fault
    from (ZeroSize a) h = rw h refl
    from (SizeTooLarge a) h = rw (none_zero h.0, h.1) refl
    from (JointTooLarge a) h =
        let some : All (λ size. 0 < size) sizes = λ k d l. (h.0 k d l).0 in
        rw (none_zero some, none_large (λ k d l. (h.0 k d l).1), place_past sizes a.0 some h.1 h.2 h.3) refl

-- the fault that is answered is one that the sizes have
pub answered_fault : {T : Type 0} (sizes : List ℕ) (r : Result T SizeFault) → result_err r ≡ fault_of_sizes sizes → IfErr r (HasFault sizes)
answered_fault sizes (Ok x) h = tt
answered_fault sizes (Err fault) h = (first_fault_is_so sizes fault).0 (sym h)

-- sizes have no fault
pub no_fault : (sizes : List ℕ) → AreSizes sizes → fault_of_sizes sizes ≡ None
no_fault sizes ok =
    rw (
      none_first (λ size. size == 0) sizes (λ k d l. let q : 0 < get_or sizes k d = (ok.each k d l).0 in ne_eqb (get_or sizes k d) 0 (λ e. omega (arith, q, e))),
      none_first (λ size. nat_lt 64 size) sizes (λ k d l. le-ltb 64 (get_or sizes k d) (ok.each k d l).1),
      none_past sizes (λ k d l. (ok.each k d l).0) ok.together,
    ) refl
