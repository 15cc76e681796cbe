-- What sizes that are kept say of the sizes, and joint data numbered over them.
use Rattle.std.proofs.Common.{◌≡◌, ℕ, ◌+◌, ◌-◌, ◌*◌, ◌/◌, ◌%◌, ◌<◌, ◌≤◌, List, ◌++◌, length, take, drop, set, replicate, slice_index, refl, sym, subst, ap, ap₂, ◌∙◌, arith}
use Rattle.std.proofs.lemmas.List.{get_or-take, take_all, drop-replicate, length-set}
use Rattle.std.proofs.lemmas.List.Elements.{All-weaker}
use Rattle.std.specs.List.{All}
use Rattle.nego_data.specs.declared.joint_data.Sizes.TheInside.{Inside}
use Rattle.nego_data.specs.Data.{data_count, split, joint}
use Rattle.nego_data.specs.Sizes.{AreSizes, AreBelow, tuple_of}
use Rattle.nego_data.specs.Kept.{sizes_kept, AreKept, length-sizes_kept}
use Rattle.nego_data.proofs.Counts.{joint_more, number_fits, number_all, joint-in_range, left_below, split_more}

-- the size of an agent stands at the agent's place
pub at-sizes_kept : (s : Inside) (a : ℕ) → a < s.count → slice_index (sizes_kept s) a ≡ slice_index s.sizes a
at-sizes_kept s a h = get_or-take s.count s.sizes a 0 h

-- sizes are above 0
pub sizes-pos : (sizes : List ℕ) → AreSizes sizes → All (λ size. 0 < size) sizes
sizes-pos sizes h = All-weaker (λ size. (0 < size) × (size ≤ 64)) (λ size. 0 < size) (λ size p. p.0) sizes h.each

module _ (s : Inside) (tuple : List ℕ) (kept : AreKept s) (sixteen : length tuple ≡ 16) where
  -- The number d of the values of the agents below i makes the whole number with what the others add.
  abbrev IsNumberTo : ℕ → ℕ → Type 0
  IsNumberTo i d = d * data_count (drop i (sizes_kept s)) + joint (drop i (sizes_kept s)) (drop i tuple) ≡ joint (sizes_kept s) tuple

  inside : (i : ℕ) → i < s.count → i < length (sizes_kept s)
  inside i h = let l = length-sizes_kept s kept in omega (arith, l, h)

  enough : length (sizes_kept s) ≤ length tuple
  enough = let l = length-sizes_kept s kept in omega (arith, l, sixteen, kept.counted)

  -- the number of the values of one agent more is small
  pub kept_number_fits : (i d : ℕ) → AreBelow (sizes_kept s) tuple → i < s.count → IsNumberTo i d → d * slice_index s.sizes i + slice_index tuple i < 1024
  kept_number_fits i d below h e =
      let k = number_fits (sizes_kept s) tuple i d (sizes-pos (sizes_kept s) kept.are_sizes) enough below (inside i h) e in
      let size = at-sizes_kept s i h in
      let small = kept.are_sizes.together in
      subst (λ n. d * n + slice_index tuple i < 1024) size (omega (arith, k, small))

  -- the number of the values of one agent more
  pub kept_number_more : (i d : ℕ) → i < s.count → IsNumberTo i d → IsNumberTo (i + 1) (d * slice_index s.sizes i + slice_index tuple i)
  kept_number_more i d h e =
      subst (λ n. IsNumberTo (i + 1) (d * n + slice_index tuple i)) (at-sizes_kept s i h)
      (joint_more (sizes_kept s) tuple i d (inside i h) (let l = inside i h in omega (arith, l, enough)) ∙ e)

  -- the number of all values
  pub kept_number_all : (i d : ℕ) → s.count ≤ i → IsNumberTo i d → d ≡ joint (sizes_kept s) tuple
  kept_number_all i d h e = number_all (sizes_kept s) tuple i d (let l = length-sizes_kept s kept in omega (arith, l, h)) e

  -- the number is one of joint data
  pub kept_number_below : AreBelow (sizes_kept s) tuple → joint (sizes_kept s) tuple < data_count (sizes_kept s)
  kept_number_below below = joint-in_range (sizes_kept s) tuple enough below

-- The joint data d are split so far: the tuple has the values from agent i on and 0 past the agents, and what is left
-- has the values of the others.
pub record IsSplitTo (s : Inside) (d : ℕ) (tuple : List ℕ) (i rest : ℕ) : Type 0 where
  pub sixteen : length tuple ≡ 16
  pub left : rest < data_count (take i (sizes_kept s))
  pub values : split (take i (sizes_kept s)) rest ++ drop i tuple ≡ tuple_of (sizes_kept s) d

module _ (s : Inside) (d : ℕ) (kept : AreKept s) where
  -- nothing is split
  pub kept_split_none : d < data_count (sizes_kept s) → IsSplitTo s d (replicate 16 0) s.count d
  unfolding tuple_of
  kept_split_none h =
      let l = length-sizes_kept s kept in
      let all : take s.count (sizes_kept s) ≡ sizes_kept s = take_all s.count (sizes_kept s) (omega (arith, l)) in
      record {
        sixteen = refl;
        left = subst (λ xs. d < data_count xs) (sym all) h;
        values = ap₂ ◌++◌ (ap (λ xs. split xs d) all) (drop-replicate s.count 16 0 ∙ ap (λ n. replicate (16 - n) 0) (sym l));
      }

  -- the value of one agent more is split off
  pub kept_split_more : (tuple : List ℕ) (a rest : ℕ) → 0 < a → a ≤ s.count → IsSplitTo s d tuple a rest →
      IsSplitTo s d (set tuple (a - 1) (rest % slice_index s.sizes (a - 1))) (a - 1) (rest / slice_index s.sizes (a - 1))
  kept_split_more tuple a rest some h now = subst (λ n. IsSplitTo s d (set tuple (a - 1) (rest % n)) (a - 1) (rest / n)) (at-sizes_kept s (a - 1) (omega (arith, some, h))) (record {
    sixteen = length-set tuple (a - 1) (rest % slice_index (sizes_kept s) (a - 1)) ∙ now.sixteen;
    left = left_below (sizes_kept s) (a - 1) rest here left;
    values = split_more (sizes_kept s) tuple (a - 1) rest here (omega (arith, some, h, kept.counted, now.sixteen)) left
        ∙ subst (λ n. split (take n (sizes_kept s)) rest ++ drop n tuple ≡ tuple_of (sizes_kept s) d) (sym back) now.values;
  })
    where
      back : a - 1 + 1 ≡ a
      back = omega (arith, some)

      here : a - 1 < length (sizes_kept s)
      here = let l = length-sizes_kept s kept in omega (arith, l, some, h)

      left : rest < data_count (take (a - 1 + 1) (sizes_kept s))
      left = subst (λ n. rest < data_count (take n (sizes_kept s))) (sym back) now.left

  -- all is split
  pub kept_split_all : (tuple : List ℕ) (a rest : ℕ) → a ≤ 0 → IsSplitTo s d tuple a rest → tuple ≡ tuple_of (sizes_kept s) d
  kept_split_all tuple a rest h now =
      let none : a ≡ 0 = omega (arith, h) in
      subst (λ n. split (take n (sizes_kept s)) rest ++ drop n tuple ≡ tuple_of (sizes_kept s) d) none now.values
