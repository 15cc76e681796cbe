-- Laws of joint data and the values of the agents in them.
use Rattle.std.proofs.Common.{◌≡◌, ℕ, zero, suc, ◌+◌, ◌*◌, ◌/◌, ◌%◌, ◌<◌, List, [], ◌∷◌, length, slice_index, refl, sym, subst, ap, ap₂, ◌∙◌, arith, le_of_suc-le-suc, suc-le-suc}
use Rattle.std.proofs.lemmas.Nat.{div_below, mod_below, div-add-mod', div-mul-add, mod-mul-add, mul-add-lt}
use Rattle.std.proofs.lemmas.List.{ext_get_or}
use Rattle.std.proofs.Math.Nat.{add-mul, mul_comm, pos_of_ne-zero, mul-zero}
use Rattle.nego_data.specs.Data.{data_count, split, joint}

-- Each agent of these sizes has a value below its size.
pub record AreValues (sizes values : List ℕ) : Type 0 where
  pub as_many : length values ≡ length sizes
  pub below : (a : ℕ) → a < length sizes → slice_index values a < slice_index sizes a

-- where there are joint data of an agent and others, there are some of the others
pub others_have_data : (size count d : ℕ) → d < size * count → 0 < count
others_have_data size count d h = pos_of_ne-zero (λ e. let k : size * count ≡ 0 = ap (λ n. size * n) e ∙ mul-zero size in omega (arith, h, k))

-- there is a value for each agent
pub length-split : (sizes : List ℕ) (d : ℕ) → length (split sizes d) ≡ length sizes
length-split [] d = refl
length-split (size ∷ sizes) d = ap suc (length-split sizes (d % data_count sizes))

-- the value of an agent in joint data is below its size
pub split-below : (sizes : List ℕ) (d a : ℕ) → d < data_count sizes → a < length sizes → slice_index (split sizes d) a < slice_index sizes a
split-below [] d a h k = absurd (let no_more : ⊥ = omega (arith, k) in no_more)
split-below (size ∷ sizes) d zero h k = div_below d (data_count sizes) size (others_have_data size (data_count sizes) d h) h
split-below (size ∷ sizes) d (suc a) h k =
    split-below sizes (d % data_count sizes) a (mod_below d (data_count sizes) (others_have_data size (data_count sizes) d h)) (le_of_suc-le-suc k)

-- the values of the agents in joint data are values
pub split-values : (sizes : List ℕ) (d : ℕ) → d < data_count sizes → AreValues sizes (split sizes d)
split-values sizes d h = record { as_many = length-split sizes d; below = λ a k. split-below sizes d a h k }

-- joint data are those with the agents' values
pub joint-split : (sizes : List ℕ) (d : ℕ) → d < data_count sizes → joint sizes (split sizes d) ≡ d
joint-split [] d h = omega (arith, h)
joint-split (size ∷ sizes) d h =
    let k = joint-split sizes (d % data_count sizes) (mod_below d (data_count sizes) (others_have_data size (data_count sizes) d h)) in
    ap (λ n. d / data_count sizes * data_count sizes + n) k ∙ div-add-mod' d (data_count sizes)

-- joint data with the same values are one
pub same_data : (sizes : List ℕ) (d e : ℕ) → d < data_count sizes → e < data_count sizes → ((a : ℕ) → a < length sizes → slice_index (split sizes d) a ≡ slice_index (split sizes e) a) → d ≡ e
same_data sizes d e h k same =
    sym (joint-split sizes d h) ∙ (ap (joint sizes) (ext_get_or 0 (split sizes d) (split sizes e) (length-split sizes d ∙ sym (length-split sizes e))
    (λ a l. same a (subst (λ n. a < n) (length-split sizes d) l))) ∙ joint-split sizes e k)

-- the rest of values are values of the rest
rest_values : (size : ℕ) (sizes : List ℕ) (value : ℕ) (values : List ℕ) → AreValues (size ∷ sizes) (value ∷ values) → AreValues sizes values
rest_values size sizes value values h = record {
  as_many = let k : suc (length values) ≡ suc (length sizes) = h.as_many in omega (arith, k);
  below = λ a l. h.below (suc a) (suc-le-suc l);
}

-- the joint data with these values are joint data
pub joint-below : (sizes values : List ℕ) → AreValues sizes values → joint sizes values < data_count sizes
joint-below [] values h = omega arith
joint-below (size ∷ sizes) [] h = absurd (let k : 0 ≡ suc (length sizes) = h.as_many in let no_more : ⊥ = omega (arith, k) in no_more)
joint-below (size ∷ sizes) (value ∷ values) h =
    let first : value < size = h.below 0 (omega arith) in
    subst (λ n. value * data_count sizes + joint sizes values < n) (mul_comm (data_count sizes) size)
    (mul-add-lt value (data_count sizes) (joint sizes values) size first (joint-below sizes values (rest_values size sizes value values h)))

-- values are those of their joint data
pub split-joint : (sizes values : List ℕ) → AreValues sizes values → split sizes (joint sizes values) ≡ values
split-joint [] [] h = refl
split-joint [] (value ∷ values) h = absurd (let k : suc (length values) ≡ 0 = h.as_many in let no_more : ⊥ = omega (arith, k) in no_more)
split-joint (size ∷ sizes) [] h = absurd (let k : 0 ≡ suc (length sizes) = h.as_many in let no_more : ⊥ = omega (arith, k) in no_more)
split-joint (size ∷ sizes) (value ∷ values) h =
    let rest = rest_values size sizes value values h in
    let below = joint-below sizes values rest in
    ap₂ ◌∷◌ (div-mul-add value (data_count sizes) (joint sizes values) below)
    (ap (split sizes) (mod-mul-add value (data_count sizes) (joint sizes values) below) ∙ split-joint sizes values rest)

-- the number of values that are sums, agent by agent, is the sum of the numbers
pub joint-sum : (sizes xs ys zs : List ℕ) → length xs ≡ length sizes → length ys ≡ length sizes → length zs ≡ length sizes →
    ((a : ℕ) → a < length sizes → slice_index zs a ≡ slice_index xs a + slice_index ys a) → joint sizes zs ≡ joint sizes xs + joint sizes ys
joint-sum [] xs ys zs l m n h = refl
joint-sum (size ∷ sizes) [] ys zs l m n h = absurd (let no_more : ⊥ = omega (arith, l) in no_more)
joint-sum (size ∷ sizes) (x ∷ xs) [] zs l m n h = absurd (let no_more : ⊥ = omega (arith, m) in no_more)
joint-sum (size ∷ sizes) (x ∷ xs) (y ∷ ys) [] l m n h = absurd (let no_more : ⊥ = omega (arith, n) in no_more)
joint-sum (size ∷ sizes) (x ∷ xs) (y ∷ ys) (z ∷ zs) l m n h =
    let first : z ≡ x + y = h 0 (omega arith) in
    let rest = joint-sum sizes xs ys zs (omega (arith, l)) (omega (arith, m)) (omega (arith, n)) (λ a k. h (suc a) (suc-le-suc k)) in
    ap₂ (λ v w. v * data_count sizes + w) first rest
    ∙ ap (λ v. v + (joint sizes xs + joint sizes ys)) (add-mul x y (data_count sizes))
    ∙ swapped (x * data_count sizes) (y * data_count sizes) (joint sizes xs) (joint sizes ys)
  where
    swapped : (p q r s : ℕ) → p + q + (r + s) ≡ p + r + (q + s)
    swapped p q r s = omega arith
