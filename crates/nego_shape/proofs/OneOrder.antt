-- There is one list in which each atom is the least that can be placed, up to where none can be.
use Rattle.std.proofs.Common.{◌≡◌, ◌∙◌, ℕ, zero, suc, ◌+◌, ◌<◌, ◌≤◌, List, [], ◌∷◌, ◌++◌, length, take, get_or, ap, sym, subst, refl, ⊎_elim, arith}
use Rattle.std.proofs.lemmas.Bool.{cases_lt, false≢true}
use Rattle.std.proofs.lemmas.List.{take_more}
use Rattle.std.proofs.Math.Seq.{take-length}
use Rattle.nego_model.specs.Negotiation.{Negotiation}
use Rattle.nego_shape.specs.Ordering.{IsReady, IsLeastReady, PlacesLeast, IsStuck}
use Rattle.nego_shape.specs.Answers.{IsOrderOf}

module _ (nego : Negotiation) where
  one_least : (placed : List ℕ) (m n : ℕ) → IsLeastReady nego placed m → IsLeastReady nego placed n → m ≡ n
  one_least placed m n h k = let l = h.least n k.ready in let r = k.least m h.ready in omega (arith, l, r)

  module _ (order other : List ℕ) (places : PlacesLeast nego order) (places_other : PlacesLeast nego other) (stuck_other : IsStuck nego other) where
    -- the first items are equal
    same_front : (k : ℕ) → k ≤ length order → (k ≤ length other) × (take k order ≡ take k other)
    same_front zero l = (omega arith, refl)
    same_front (suc k) l =
        let before = same_front k (omega (arith, l)) in
        let there = before.0 in
        let within : k < length order = omega (arith, l) in
        ⊎_elim
        (λ inside.
        let P : List ℕ → Type 0 = λ xs. IsLeastReady nego xs (get_or order k 0) in
        let e : get_or order k 0 ≡ get_or other k 0 = one_least (take k other) (get_or order k 0) (get_or other k 0) (subst P before.1 (places k within)) (places_other k inside) in
        let next : k + 1 ≡ suc k = omega arith in
        let more : take (k + 1) order ≡ take (k + 1) other = take_more order k 0 within ∙ (ap (λ xs. xs ++ get_or order k 0 ∷ []) before.1 ∙ (ap (λ x. take k other ++ x ∷ []) e ∙ sym (take_more other k 0 inside))) in
        let Q : ℕ → Type 0 = λ i. take i order ≡ take i other in
        (omega (arith, inside), subst Q next more))
        (λ past.
        let e : k ≡ length other = omega (arith, past, there) in
        let all : take k other ≡ other = ap (λ i. take i other) e ∙ take-length other in
        let P : List ℕ → Type 0 = λ xs. IsReady nego xs (get_or order k 0) in
        absurd (stuck_other (get_or order k 0) (subst P (before.1 ∙ all) (places k within).ready)))
        (cases_lt k (length other))

  pub one_placed_list : (order other : List ℕ) → PlacesLeast nego order → PlacesLeast nego other → IsStuck nego order → IsStuck nego other → order ≡ other
  one_placed_list order other places places_other stuck stuck_other =
      let here = same_front order other places places_other stuck_other (length order) (omega arith) in
      let there = same_front other order places_other places stuck (length other) (omega arith) in
      let l = here.0 in
      let r = there.0 in
      let e : length order ≡ length other = omega (arith, l, r) in
      sym (take-length order) ∙ (here.1 ∙ (ap (λ i. take i other) e ∙ take-length other))

  all_stuck : (order : List ℕ) → IsOrderOf nego order → IsStuck nego order
  all_stuck order h n ready = false≢true (sym ready.left.unplaced ∙ (h.forward.atoms n ∙ ready.left.atom))

  pub one_order : (order other : List ℕ) → IsOrderOf nego order → IsOrderOf nego other → order ≡ other
  one_order order other h k = one_placed_list order other h.least k.least (all_stuck order h) (all_stuck other k)
