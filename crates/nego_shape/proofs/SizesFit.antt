-- Sizes within their limits have no fault.
use Rattle.std.proofs.Common.{◌≡◌, ℕ, ◌+◌, ◌*◌, ◌<◌, ◌≤◌, ◌==◌, nat_lt, List, length, take, drop, slice_index, get_or, Result, Ok, Err, refl, sym, subst, arith, eqb-true, ltb-true}
use Rattle.std.proofs.lemmas.List.Elements.{All-weaker, All-drop}
use Rattle.std.proofs.lemmas.List.Quantifiers.{position-Some}
use Rattle.std.specs.List.{All}
use Rattle.std.specs.Result.{IfErr, IsOk}
use native.Mathlib.Nat.{mul-le-mul_left}
use Rattle.nego_data.specs.declared.joint_data.SizeFault.{SizeFault}
use Rattle.nego_data.specs.declared.joint_data.SizeFault.TheVariants.{ZeroSize, SizeTooLarge, JointTooLarge}
use Rattle.nego_data.specs.Data.{data_count}
use Rattle.nego_data.specs.Sizes.{AreSizes, HasFault}
use Rattle.nego_data.proofs.Counts.{data_count_more, data_count-at, data_count-pos}

-- the product of the first sizes is at most that of all
first_sizes : (sizes : List ℕ) (i : ℕ) → i < length sizes → All (λ size. 0 < size) sizes → data_count (take (i + 1) sizes) ≤ data_count sizes
first_sizes sizes i below above =
    let front = data_count (take i sizes) in
    let size = slice_index sizes i in
    let rest = data_count (drop (i + 1) sizes) in
    let some : 1 ≤ rest = data_count-pos (drop (i + 1) sizes) (All-drop (λ s. 0 < s) (i + 1) sizes above) in
    let here : size * 1 ≤ size * rest = mul-le-mul_left size some in
    let both : front * (size * 1) ≤ front * (size * rest) = mul-le-mul_left front here in
    let one : size * 1 ≡ size = omega arith in
    let more = data_count_more sizes i below in
    let at = data_count-at sizes i below in
    subst (λ n. n ≤ data_count sizes) (sym more) (subst (λ n. front * size ≤ n) (sym at) (subst (λ n. front * n ≤ front * (size * rest)) one both))

pub no_size_fault : (sizes : List ℕ) (fault : SizeFault) → AreSizes sizes → HasFault sizes fault → ⊥
no_size_fault sizes (ZeroSize a) ok h =
    let found = position-Some (λ size. size == 0) sizes a.0 0 h in
    let bound = (ok.each a.0 0 found.0).0 in
    let zero = eqb-true (get_or sizes a.0 0) 0 found.1 in omega (arith, bound, zero)
no_size_fault sizes (SizeTooLarge a) ok h =
    let found = position-Some (λ size. nat_lt 64 size) sizes a.0 0 h.1 in
    let bound = (ok.each a.0 0 found.0).1 in
    let large = ltb-true 64 (get_or sizes a.0 0) found.1 in omega (arith, bound, large)
no_size_fault sizes (JointTooLarge a) ok h =
    let below = first_sizes sizes a.0 h.1 (All-weaker (λ size. (0 < size) × (size ≤ 64)) (λ size. 0 < size) (λ size p. p.0) sizes ok.each) in
    let all = ok.together in
    let large = h.3 in omega (arith, below, all, large)

pub ok_from_no_fault : {T E : Type 0} (P : E → Type 0) (r : Result T E) → IfErr r P → ((e : E) → P e → ⊥) → IsOk r
ok_from_no_fault P (Ok x) h no_fault = refl
ok_from_no_fault P (Err e) h no_fault = absurd (no_fault e h)
