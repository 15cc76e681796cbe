-- Laws of the product of sizes, and of joint data numbered agent by agent.
use Rattle.std.proofs.Common.{◌≡◌, ℕ, suc, ◌+◌, ◌-◌, ◌*◌, ◌/◌, ◌%◌, ◌<◌, ◌≤◌, List, [], ◌∷◌, ◌++◌, length, take, drop, replicate, set, slice_index, inl, inr, refl, sym, subst, ap, ap₂, ◌∙◌, arith}
use Rattle.std.proofs.lemmas.List.{take_more, drop_more, drop_all, get_or-take, take-append-drop, append_assoc, length-replicate, length-take-le, get_or_append_left, get_or-append_right, get_or-replicate, get_or_past, set_at, drop-set}
use Rattle.std.proofs.lemmas.Bool.{cases_lt}
use Rattle.std.proofs.lemmas.List.Elements.{All-head, All-tail, All-drop}
use Rattle.std.proofs.lemmas.Nat.{div_below, mod_below, div-add-mod', div-mul-add, mod-mul-add}
use Rattle.std.proofs.Math.Nat.{add-mul, add_assoc, le-mul_of_pos_right, mul_assoc, mul-one, one-mul, mul-pos, add_comm, div-one, mod-eq_of_lt, add-mul-div_right, add-mul-mod_self_right}
use Rattle.std.specs.List.{All}
use Rattle.nego_data.specs.Data.{data_count, split, joint}
use Rattle.nego_data.specs.Sizes.{AreBelow}
use Rattle.nego_data.proofs.JointData.{AreValues, joint-below, others_have_data}

-- the product of two lists of sizes, one after the other
pub data_count-append : (xs ys : List ℕ) → data_count (xs ++ ys) ≡ data_count xs * data_count ys
data_count-append [] ys = sym (one-mul (data_count ys))
data_count-append (x ∷ xs) ys = ap (λ n. x * n) (data_count-append xs ys) ∙ sym (mul_assoc x (data_count xs) (data_count ys))

-- the product of one size more
pub data_count_more : (xs : List ℕ) (i : ℕ) → i < length xs → data_count (take (i + 1) xs) ≡ data_count (take i xs) * slice_index xs i
data_count_more xs i h =
    ap data_count (take_more xs i 0 h) ∙ data_count-append (take i xs) (slice_index xs i ∷ []) ∙ ap (λ n. data_count (take i xs) * n) (mul-one (slice_index xs i))

-- the product of the sizes from an agent on
pub data_count_rest : (xs : List ℕ) (i : ℕ) → i < length xs → data_count (drop i xs) ≡ slice_index xs i * data_count (drop (i + 1) xs)
data_count_rest xs i h = ap data_count (drop_more xs i 0 h)

-- the product of all sizes, at one of them
pub data_count-at : (xs : List ℕ) (i : ℕ) → i < length xs → data_count xs ≡ data_count (take i xs) * (slice_index xs i * data_count (drop (i + 1) xs))
data_count-at xs i h =
    ap data_count (sym (take-append-drop i xs)) ∙ data_count-append (take i xs) (drop i xs) ∙ ap (λ n. data_count (take i xs) * n) (data_count_rest xs i h)

-- one more value in a number, which makes no other
pub joint_more : (sizes values : List ℕ) (i d : ℕ) → i < length sizes → i < length values →
    (d * slice_index sizes i + slice_index values i) * data_count (drop (i + 1) sizes) + joint (drop (i + 1) sizes) (drop (i + 1) values) ≡ d * data_count (drop i sizes) + joint (drop i sizes) (drop i values)
joint_more sizes values i d h k =
    let here : joint (drop i sizes) (drop i values) ≡ slice_index values i * data_count (drop (i + 1) sizes) + joint (drop (i + 1) sizes) (drop (i + 1) values) =
    ap₂ joint (drop_more sizes i 0 h) (drop_more values i 0 k) in
    rw (here, data_count_rest sizes i h)
    (turned d (slice_index sizes i) (slice_index values i) (data_count (drop (i + 1) sizes)) (joint (drop (i + 1) sizes) (drop (i + 1) values)))
  where
    turned : (d s v c j : ℕ) → (d * s + v) * c + j ≡ d * (s * c) + (v * c + j)
    turned d s v c j = ap (λ n. n + j) (add-mul (d * s) v c ∙ ap (λ n. n + v * c) (mul_assoc d s c)) ∙ add_assoc (d * (s * c)) (v * c) j

-- there are joint data of sizes above 0
pub data_count-pos : (xs : List ℕ) → All (λ size. 0 < size) xs → 0 < data_count xs
data_count-pos [] h = omega arith
data_count-pos (x ∷ xs) h = mul-pos (All-head (λ size. 0 < size) x xs h) (data_count-pos xs (All-tail (λ size. 0 < size) x xs h))

-- the value of the last agent is a rest, and those of the others are the values of a quotient
pub split-last : (xs : List ℕ) (s r : ℕ) → r < data_count (xs ++ s ∷ []) → split (xs ++ s ∷ []) r ≡ split xs (r / s) ++ r % s ∷ []
split-last [] s r h =
    let below : r < s = subst (λ n. r < n) (mul-one s) h in
    ap (λ n. n ∷ []) (div-one r ∙ sym (mod-eq_of_lt below))
split-last (x ∷ xs) s r h =
    ap₂ ◌∷◌ first (split-last xs s rest inside) ∙ ap₂ (λ n m. r / s / data_count xs ∷ (split xs n ++ m ∷ [])) middle last
  where
    whole : ℕ
    whole = data_count (xs ++ s ∷ [])

    is_product : whole ≡ data_count xs * s
    is_product = data_count-append xs (s ∷ []) ∙ ap (λ n. data_count xs * n) (mul-one s)

    rest : ℕ
    rest = r % whole

    inside : rest < whole
    inside = mod_below r whole (others_have_data x whole r h)

    some_value : 0 < s
    some_value = others_have_data (data_count xs) s rest (subst (λ n. rest < n) is_product inside)

    quotient : ℕ
    quotient = r / whole * data_count xs

    is_sum : r ≡ rest + quotient * s
    is_sum =
        sym (div-add-mod' r whole) ∙ add_comm (r / whole * whole) rest
        ∙ ap (λ n. rest + n) (ap (λ n. r / whole * n) is_product ∙ sym (mul_assoc (r / whole) (data_count xs) s))

    divided : r / s ≡ quotient + rest / s
    divided = ap (λ n. n / s) is_sum ∙ add-mul-div_right rest quotient some_value ∙ add_comm (rest / s) quotient

    small : rest / s < data_count xs
    small = div_below rest s (data_count xs) some_value (subst (λ n. rest < n) is_product inside)

    first : r / whole ≡ r / s / data_count xs
    first = sym (div-mul-add (r / whole) (data_count xs) (rest / s) small) ∙ ap (λ n. n / data_count xs) (sym divided)

    middle : rest / s ≡ (r / s) % data_count xs
    middle = sym (mod-mul-add (r / whole) (data_count xs) (rest / s) small) ∙ ap (λ n. n % data_count xs) (sym divided)

    last : rest % s ≡ r % s
    last = sym (add-mul-mod_self_right rest quotient s) ∙ ap (λ n. n % s) (sym is_sum)

-- ---- joint data numbered agent by agent

-- values past the agents add nothing to a number
pub joint-front : (sizes values : List ℕ) → joint sizes (take (length sizes) values) ≡ joint sizes values
joint-front [] values = refl
joint-front (size ∷ sizes) [] = refl
joint-front (size ∷ sizes) (value ∷ values) = ap (λ n. value * data_count sizes + n) (joint-front sizes values)

-- the values of the agents, of a list that may have more
pub front-values : (sizes values : List ℕ) → length sizes ≤ length values → AreBelow sizes values → AreValues sizes (take (length sizes) values)
front-values sizes values enough below = record {
  as_many = length-take-le (length sizes) values enough;
  below = λ a h. subst (λ n. n < slice_index sizes a) (sym (get_or-take (length sizes) values a 0 h)) (below a h);
}

-- the number of values is one of joint data
pub joint-in_range : (sizes values : List ℕ) → length sizes ≤ length values → AreBelow sizes values → joint sizes values < data_count sizes
joint-in_range sizes values enough below =
    subst (λ n. n < data_count sizes) (joint-front sizes values) (joint-below sizes (take (length sizes) values) (front-values sizes values enough below))

-- a number so far is no greater than the whole
number_le : (sizes values : List ℕ) (i d : ℕ) → All (λ size. 0 < size) sizes → d * data_count (drop i sizes) + joint (drop i sizes) (drop i values) ≡ joint sizes values → d ≤ joint sizes values
number_le sizes values i d some e =
    let more : 0 < data_count (drop i sizes) = data_count-pos (drop i sizes) (All-drop (λ size. 0 < size) i sizes some) in
    let k : d ≤ d * data_count (drop i sizes) = le-mul_of_pos_right d more in
    omega (arith, k, e)

-- the number of the values of one agent more is one of joint data
pub number_fits : (sizes values : List ℕ) (i d : ℕ) → All (λ size. 0 < size) sizes → length sizes ≤ length values → AreBelow sizes values → i < length sizes →
    d * data_count (drop i sizes) + joint (drop i sizes) (drop i values) ≡ joint sizes values → d * slice_index sizes i + slice_index values i < data_count sizes
number_fits sizes values i d some enough below h e =
    let whole = joint-in_range sizes values enough below in
    let next = joint_more sizes values i d h (omega (arith, h, enough)) ∙ e in
    let k = number_le sizes values (i + 1) (d * slice_index sizes i + slice_index values i) some next in
    omega (arith, k, whole)

-- the number of all values is the whole
pub number_all : (sizes values : List ℕ) (i d : ℕ) → length sizes ≤ i → d * data_count (drop i sizes) + joint (drop i sizes) (drop i values) ≡ joint sizes values → d ≡ joint sizes values
number_all sizes values i d h e =
    let none : drop i sizes ≡ [] = drop_all i sizes h in
    let k : d * 1 + 0 ≡ joint sizes values = subst (λ xs. d * data_count xs + joint xs (drop i values) ≡ joint sizes values) none e in
    omega (arith, k)

-- ---- lists with 0 behind them

-- a number of a list is the same where 0 stands behind the list
pub at-padded : (xs : List ℕ) (n a : ℕ) → slice_index (xs ++ replicate n 0) a ≡ slice_index xs a
at-padded xs n a = elim (cases_lt a (length xs)) [ inl h ↦ get_or_append_left xs (replicate n 0) 0 a h | inr h ↦ past h ]
  where
    zeros : (k : ℕ) → slice_index (replicate n 0) k ≡ 0
    zeros k = elim (cases_lt k n) [
      | inl h ↦ get_or-replicate n k 0 0 h
      | inr h ↦ get_or_past (replicate n 0) k 0 (subst (λ m. m ≤ k) (sym (length-replicate n 0)) h)
    ]

    past : length xs ≤ a → slice_index (xs ++ replicate n 0) a ≡ slice_index xs a
    past h = get_or-append_right xs (replicate n 0) (length xs) a 0 refl h ∙ zeros (a - length xs) ∙ sym (get_or_past xs a 0 h)

-- one more number of a list that is copied over 0
pub padded_more : (xs : List ℕ) (n i : ℕ) → i < length xs → i < n → set (take i xs ++ replicate (n - i) 0) i (slice_index xs i) ≡ take (i + 1) xs ++ replicate (n - (i + 1)) 0
padded_more xs n i h k =
    let l : length (take i xs) ≡ i = length-take-le i xs (omega arith) in
    let e : n - i ≡ suc (n - (i + 1)) = omega arith in
    rw e (set_at (take i xs) 0 (replicate (n - (i + 1)) 0) (slice_index xs i) i l) ∙ sym (ap (λ ys. ys ++ replicate (n - (i + 1)) 0) (take_more xs i 0 h) ∙ append_assoc (take i xs) (slice_index xs i ∷ []) (replicate (n - (i + 1)) 0))

-- ---- values split off agent by agent

-- what is left once the value of one agent more is split off
pub left_below : (sizes : List ℕ) (i rest : ℕ) → i < length sizes → rest < data_count (take (i + 1) sizes) → rest / slice_index sizes i < data_count (take i sizes)
left_below sizes i rest h below =
    let k : rest < data_count (take i sizes) * slice_index sizes i = subst (λ n. rest < n) (data_count_more sizes i h) below in
    div_below rest (slice_index sizes i) (data_count (take i sizes)) (others_have_data (data_count (take i sizes)) (slice_index sizes i) rest k) k

-- the values of one agent more
pub split_more : (sizes tuple : List ℕ) (i rest : ℕ) → i < length sizes → i < length tuple → rest < data_count (take (i + 1) sizes) →
    split (take i sizes) (rest / slice_index sizes i) ++ drop i (set tuple i (rest % slice_index sizes i)) ≡ split (take (i + 1) sizes) rest ++ drop (i + 1) tuple
split_more sizes tuple i rest h k below =
    let size = slice_index sizes i in
    let front = split (take i sizes) (rest / size) in
    let one_more = take_more sizes i 0 h in
    ap (λ xs. front ++ xs) (drop-set tuple i (rest % size) k)
    ∙ sym (append_assoc front (rest % size ∷ []) (drop (i + 1) tuple))
    ∙ ap (λ xs. xs ++ drop (i + 1) tuple)
    (sym (ap (λ xs. split xs rest) one_more ∙ split-last (take i sizes) size rest (subst (λ xs. rest < data_count xs) one_more below)))
