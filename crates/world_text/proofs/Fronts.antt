-- The values of joint data at the front of a tuple.
use Rattle.std.proofs.Common.{◌≡◌, ℕ, suc, ◌-◌, ◌%◌, List, [], ◌∷◌, length, take, replicate, refl, ap}
use Rattle.std.proofs.lemmas.List.{take_at}
use Rattle.nego_data.specs.Data.{data_count, split}
use Rattle.nego_data.specs.Sizes.{tuple_of}

length_split : (sizes : List ℕ) (d : ℕ) → length (split sizes d) ≡ length sizes
length_split [] d = refl
length_split (size ∷ sizes) d = ap suc (length_split sizes (d % data_count sizes))

pub front_values : (sizes : List ℕ) (d : ℕ) → take (length sizes) (tuple_of sizes d) ≡ split sizes d
unfolding tuple_of
front_values sizes d = take_at (split sizes d) (replicate (16 - length sizes) 0) (length sizes) (length_split sizes d)
