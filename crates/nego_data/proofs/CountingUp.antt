-- Laws of tuples that are counted up.
use Rattle.std.proofs.Common.{◌≡◌, inl, inr, ℕ, zero, suc, ◌+◌, ◌*◌, ◌<◌, ◌≤◌, List, [], ◌∷◌, length, drop, replicate, set, slice_index, refl, sym, subst, ap, ◌∙◌, arith}
use Rattle.std.proofs.lemmas.Bool.{cases_eq, cases_lt}
use Rattle.std.proofs.lemmas.List.{get_or-set_same, get_or-set_other, length-set, get_or-replicate, get_or_past}
use Rattle.std.proofs.Math.Nat.{add-mul, one-mul}
use Rattle.nego_data.specs.Data.{data_count, joint}
use Rattle.nego_data.specs.Sizes.{AreSizes, IsTuple}
use Rattle.nego_data.proofs.Counts.{data_count_rest}

one_more : (n m : ℕ) → (n + 1) * m ≡ n * m + m
one_more n m = add-mul n 1 m ∙ ap (λ k. n * m + k) (one-mul m)

-- the number of values of which one is replaced
joint-set : (sizes values : List ℕ) (i v : ℕ) → i < length sizes → i < length values →
    joint sizes (set values i v) + slice_index values i * data_count (drop (i + 1) sizes) ≡ joint sizes values + v * data_count (drop (i + 1) sizes)
joint-set [] values i v h k = absurd (omega (arith, h))
joint-set (size ∷ sizes) [] i v h k = absurd (omega (arith, k))
joint-set (size ∷ sizes) (x ∷ xs) zero v h k = omega arith
joint-set (size ∷ sizes) (x ∷ xs) (suc i) v h k =
    subst (λ n. x * data_count sizes + joint sizes (set xs i v) + slice_index xs i * data_count (drop n (size ∷ sizes)) ≡ x * data_count sizes + joint sizes xs + v * data_count (drop n (size ∷ sizes)))
    next (one_less (joint-set sizes xs i v (omega (arith, h)) (omega (arith, k))))
  where
    next : suc (i + 1) ≡ suc i + 1
    next = omega arith

    one_less : joint sizes (set xs i v) + slice_index xs i * data_count (drop (i + 1) sizes) ≡ joint sizes xs + v * data_count (drop (i + 1) sizes) →
        x * data_count sizes + joint sizes (set xs i v) + slice_index xs i * data_count (drop (i + 1) sizes) ≡ x * data_count sizes + joint sizes xs + v * data_count (drop (i + 1) sizes)
    one_less e = omega (arith, e)

-- the number of values that are 0
joint-zeros : (sizes : List ℕ) (n : ℕ) → joint sizes (replicate n 0) ≡ 0
joint-zeros [] n = refl
joint-zeros (size ∷ sizes) zero = refl
joint-zeros (size ∷ sizes) (suc n) = let e = joint-zeros sizes n in omega (arith, e)

module _ (sizes : List ℕ) (ok : AreSizes sizes) where
  -- a tuple of which an agent's value is replaced
  tuple-set : (tuple : List ℕ) (i v : ℕ) → IsTuple sizes tuple → i < length sizes → v < slice_index sizes i → IsTuple sizes (set tuple i v)
  tuple-set tuple i v is here below = record {
    sixteen = length-set tuple i v ∙ is.sixteen;
    values = λ a h. elim (cases_eq a i) [
      | inl same ↦ subst (λ n. n < slice_index sizes a) (sym (ap (slice_index (set tuple i v)) same ∙ there)) (subst (λ n. v < slice_index sizes n) (sym same) below)
      | inr other ↦ subst (λ n. n < slice_index sizes a) (sym (get_or-set_other tuple i a v 0 other)) (is.values a h)
    ];
    rest = λ a h. get_or-set_other tuple i a v 0 (omega (arith, h, here)) ∙ is.rest a h;
  }
    where
      there : slice_index (set tuple i v) i ≡ v
      there = get_or-set_same tuple i v 0 (let few = ok.few_agents in omega (arith, here, few, is.sixteen))

  -- the tuple of the first joint data
  pub first-tuple : IsTuple sizes (replicate 16 0) × (joint sizes (replicate 16 0) ≡ 0)
  first-tuple = (
    record {
      sixteen = refl;
      values = λ a h. subst (λ n. n < slice_index sizes a) (sym (get_or-replicate 16 a 0 0 (let few = ok.few_agents in omega (arith, h, few)))) ((ok.each a 0 h).0);
      rest = λ a h. none a;
    },
    joint-zeros sizes 16,
  )
    where
      none : (a : ℕ) → slice_index (replicate 16 0) a ≡ 0
      none a = elim (cases_lt a 16) [
        | inl h ↦ get_or-replicate 16 a 0 0 h
        | inr h ↦ get_or_past (replicate 16 0) a 0 h
      ]

  module _ (tuple : List ℕ) (a : ℕ) (is : IsTuple sizes tuple) (agent : a < length sizes) where
    within : a < length tuple
    within = let few = ok.few_agents in omega (arith, agent, few, is.sixteen)

    -- one more of an agent's value
    pub counted_one : (d : ℕ) → joint sizes tuple + data_count (drop (a + 1) sizes) ≡ d + 1 → slice_index tuple a + 1 < slice_index sizes a →
        IsTuple sizes (set tuple a (slice_index tuple a + 1)) × (joint sizes (set tuple a (slice_index tuple a + 1)) ≡ d + 1)
    counted_one d left below =
        let e = joint-set sizes tuple a (slice_index tuple a + 1) agent within in
        let more : (slice_index tuple a + 1) * data_count (drop (a + 1) sizes) ≡ slice_index tuple a * data_count (drop (a + 1) sizes) + data_count (drop (a + 1) sizes) =
        one_more (slice_index tuple a) (data_count (drop (a + 1) sizes)) in
        (tuple-set tuple a (slice_index tuple a + 1) is agent below, omega (arith, e, more, left))

    -- an agent's greatest value is counted over
    pub counted_over : (d : ℕ) → joint sizes tuple + data_count (drop (a + 1) sizes) ≡ d + 1 → slice_index sizes a ≤ slice_index tuple a + 1 →
        IsTuple sizes (set tuple a 0) × (joint sizes (set tuple a 0) + data_count (drop a sizes) ≡ d + 1)
    counted_over d left full =
        let e = joint-set sizes tuple a 0 agent within in
        let greatest : slice_index sizes a ≡ slice_index tuple a + 1 = (let below = is.values a agent in omega (arith, full, below)) in
        let all : data_count (drop a sizes) ≡ slice_index tuple a * data_count (drop (a + 1) sizes) + data_count (drop (a + 1) sizes) =
        data_count_rest sizes a agent ∙ ap (λ n. n * data_count (drop (a + 1) sizes)) greatest ∙ one_more (slice_index tuple a) (data_count (drop (a + 1) sizes)) in
        (tuple-set tuple a 0 is agent (omega (arith, greatest)), omega (arith, e, all, left))
