-- Laws of tuples.
use Rattle.std.proofs.Common.{◌≡◌, ℕ, ◌+◌, ◌-◌, ◌<◌, ◌≤◌, List, ◌++◌, length, take, drop, replicate, slice_index, sym, subst, ap, ◌∙◌, arith}
use Rattle.std.proofs.lemmas.List.{length-append, length-replicate, length-drop, get_or-drop, get_or-replicate, get_or_past, take-append-drop, take_at, ext_get_or}
use Rattle.nego_data.specs.Data.{data_count, split, joint}
use Rattle.nego_data.specs.Sizes.{AreSizes, AreBelow, tuple_of, IsTuple, JointAndSplitAreInverse}
use Rattle.nego_data.proofs.JointData.{length-split, split-below, joint-split, split-joint}
use Rattle.nego_data.proofs.Counts.{at-padded, joint-front, front-values, joint-in_range}

-- a tuple of joint data has 16 numbers
pub length-tuple_of : (sizes : List ℕ) (d : ℕ) → length sizes ≤ 16 → length (tuple_of sizes d) ≡ 16
unfolding tuple_of
length-tuple_of sizes d few =
    let k = length-append (split sizes d) (replicate (16 - length sizes) 0) in
    omega (arith, k, length-split sizes d, length-replicate {A = ℕ} (16 - length sizes) 0)

-- an agent's number in the tuple of joint data is the agent's value
pub at-tuple_of : (sizes : List ℕ) (d a : ℕ) → slice_index (tuple_of sizes d) a ≡ slice_index (split sizes d) a
unfolding tuple_of
at-tuple_of sizes d a = at-padded (split sizes d) (16 - length sizes) a

-- the values of the agents in the tuple of joint data are below their sizes
pub tuple_of-below : (sizes : List ℕ) (d : ℕ) → d < data_count sizes → AreBelow sizes (tuple_of sizes d)
tuple_of-below sizes d h a k = subst (λ n. n < slice_index sizes a) (sym (at-tuple_of sizes d a)) (split-below sizes d a h k)

-- the first numbers of the tuple of joint data are the values
front-tuple_of : (sizes : List ℕ) (d : ℕ) → take (length sizes) (tuple_of sizes d) ≡ split sizes d
unfolding tuple_of
front-tuple_of sizes d = take_at (split sizes d) (replicate (16 - length sizes) 0) (length sizes) (length-split sizes d)

-- joint data are those of their tuple
pub joint-tuple_of : (sizes : List ℕ) (d : ℕ) → d < data_count sizes → joint sizes (tuple_of sizes d) ≡ d
joint-tuple_of sizes d h = sym (joint-front sizes (tuple_of sizes d)) ∙ ap (joint sizes) (front-tuple_of sizes d) ∙ joint-split sizes d h

-- the tuple of joint data is one
pub tuple_of-tuple : (sizes : List ℕ) (d : ℕ) → AreSizes sizes → d < data_count sizes → IsTuple sizes (tuple_of sizes d)
tuple_of-tuple sizes d ok h = record {
  sixteen = length-tuple_of sizes d ok.few_agents;
  values = tuple_of-below sizes d h;
  rest = λ a k. at-tuple_of sizes d a ∙ get_or_past (split sizes d) a 0 (subst (λ n. n ≤ a) (sym (length-split sizes d)) k);
}

-- a tuple has 0 past the agents
rest-zeros : (sizes tuple : List ℕ) → AreSizes sizes → IsTuple sizes tuple → drop (length sizes) tuple ≡ replicate (16 - length sizes) 0
rest-zeros sizes tuple ok h = ext_get_or 0 (drop (length sizes) tuple) (replicate (16 - length sizes) 0) same_length
    (λ k l. get_or-drop (length sizes) tuple k 0 ∙ h.rest (length sizes + k) (omega arith) ∙ sym (get_or-replicate (16 - length sizes) k 0 0 (omega (arith, l, here))))
  where
    here : length (drop (length sizes) tuple) ≡ 16 - length sizes
    here = let k = length-drop (length sizes) tuple in omega (arith, k, h.sixteen)

    same_length : length (drop (length sizes) tuple) ≡ length (replicate {A = ℕ} (16 - length sizes) 0)
    same_length = here ∙ sym (length-replicate (16 - length sizes) 0)

-- a tuple is that of its joint data
pub tuple_of-joint : (sizes tuple : List ℕ) → AreSizes sizes → IsTuple sizes tuple → tuple_of sizes (joint sizes tuple) ≡ tuple
unfolding tuple_of
tuple_of-joint sizes tuple ok h =
    let few = ok.few_agents in
    let enough : length sizes ≤ length tuple = omega (arith, few, h.sixteen) in
    let values = front-values sizes tuple enough h.values in
    ap (λ xs. xs ++ replicate (16 - length sizes) 0) (ap (split sizes) (sym (joint-front sizes tuple)) ∙ split-joint sizes (take (length sizes) tuple) values)
    ∙ ap (λ xs. take (length sizes) tuple ++ xs) (sym (rest-zeros sizes tuple ok h))
    ∙ take-append-drop (length sizes) tuple

-- joint data and tuples are one for one
pub joint_and_split : JointAndSplitAreInverse
joint_and_split = record {
  joint_of_tuple = λ sizes d ok h. (tuple_of-tuple sizes d ok h, joint-tuple_of sizes d h);
  tuple_of_joint = λ sizes tuple ok h.
      let few = ok.few_agents in
      (joint-in_range sizes tuple (omega (arith, few, h.sixteen)) h.values, tuple_of-joint sizes tuple ok h);
}
