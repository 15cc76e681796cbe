-- Searches through the alive outcomes, which stand by rising number.
use Rattle.std.proofs.Common.{◌≡◌, ⊎_elim, ℕ, zero, suc, ◌+◌, ◌<◌, ◌≤◌, List, [], ◌∷◌, map, option_map, length, slice_get, slice_index_or, get_or, Option, Some, None, refl, sym, subst, ap, ◌∙◌, arith}
use Rattle.std.proofs.lemmas.Bool.{cases_lt}
use Rattle.std.proofs.lemmas.List.{length-map}
use Rattle.std.proofs.lemmas.Option.{none-some, same_Some, slice_get_within, slice_get-map, slice_get-get_or, slice_get_read}
use Rattle.nego_base.specs.Members.{RisesFrom, IsRising}
use Rattle.nego_expr.specs.Work.{WorkOutcome, PlainWork, outcome_among, outcome_at, IsWork}
use Rattle.nego_expr.specs.declared.outcome.Outcome.{Outcome}
use Rattle.nego_expr.specs.WorkView.{plain_outcome}
use Rattle.nego_expr.proofs.WorkEdits.{numbers_of, found_cases, found-number}

-- what is found stands at a place
pub place_found : (zs : List WorkOutcome) (o : ℕ) (x : WorkOutcome) → outcome_among zs o ≡ Some x → (j : ℕ) × (slice_get zs j ≡ Some x)
place_found [] o x h = absurd (none-some x h)
place_found (z ∷ zs) o x h = ⊎_elim (λ k. (0, ap (λ w. Some w) k.1)) (λ k. let q = place_found zs o x k.1 in (suc q.0, q.1)) (found_cases z zs o x h)

-- numbers that rise from a low one are not below it
not_below : (low : ℕ) (zs : List WorkOutcome) (j : ℕ) (z : WorkOutcome) → RisesFrom low (numbers_of zs) → slice_get zs j ≡ Some z → low ≤ z.number
not_below low [] j z h e = absurd (none-some z e)
not_below low (y ∷ ys) zero z h e = subst (λ w. low ≤ w.number) (same_Some y z e) h.0
not_below low (y ∷ ys) (suc j) z h e =
    let from : low ≤ y.number = h.0 in
    let above : y.number + 1 ≤ z.number = not_below (y.number + 1) ys j z h.1 e in
    omega (arith, from, above)

-- an outcome of a lesser number stands at an earlier place
earlier : (low : ℕ) (zs : List WorkOutcome) (i j : ℕ) (y z : WorkOutcome) → RisesFrom low (numbers_of zs) → slice_get zs i ≡ Some y → slice_get zs j ≡ Some z → z.number < y.number → j < i
earlier low [] i j y z h e k l = absurd (none-some y e)
earlier low (w ∷ ws) zero zero y z h e k l = absurd (let same : y ≡ z = sym (same_Some w y e) ∙ same_Some w z k in let n = ap (λ v. v.number) same in let no_more : ⊥ = omega (arith, n, l) in no_more)
earlier low (w ∷ ws) zero (suc j) y z h e k l = absurd (
    let above : w.number + 1 ≤ z.number = not_below (w.number + 1) ws j z h.1 k in
    let n = ap (λ v. v.number) (same_Some w y e) in
    let no_more : ⊥ = omega (arith, above, n, l) in
    no_more)
earlier low (w ∷ ws) (suc i) zero y z h e k l = omega arith
earlier low (w ∷ ws) (suc i) (suc j) y z h e k l = let r : j < i = earlier (w.number + 1) ws i j y z h.1 e k l in omega (arith, r)

-- an outcome at an earlier place has a lesser number
lower : (low : ℕ) (zs : List WorkOutcome) (i j : ℕ) (y z : WorkOutcome) → RisesFrom low (numbers_of zs) → slice_get zs i ≡ Some y → slice_get zs j ≡ Some z → j < i → z.number < y.number
lower low [] i j y z h e k l = absurd (none-some y e)
lower low (w ∷ ws) zero j y z h e k l = absurd (omega (arith, l))
lower low (w ∷ ws) (suc i) zero y z h e k l =
    let above : w.number + 1 ≤ y.number = not_below (w.number + 1) ws i y h.1 e in
    let n = ap (λ v. v.number) (same_Some w z k) in
    omega (arith, above, n)
lower low (w ∷ ws) (suc i) (suc j) y z h e k l = lower (w.number + 1) ws i j y z h.1 e k (omega (arith, l))

-- an outcome before the place at which that of a number is found has a lesser number
pub lower_than_found : (zs : List WorkOutcome) → IsRising (numbers_of zs) → (o i : ℕ) → i < length zs → slice_get zs i ≡ outcome_among zs o → (j : ℕ) (z : WorkOutcome) → j < i → slice_get zs j ≡ Some z → z.number < o
lower_than_found zs rise o i within found j z l k =
    let at = slice_get-get_or zs i z within in
    let same : (get_or zs i z).number ≡ o = found-number zs o (get_or zs i z) (sym found ∙ at) in
    let less : z.number < (get_or zs i z).number = lower 0 zs i j (get_or zs i z) z rise at k l in
    omega (arith, less, same)

-- It holds of the number of each outcome before the place.
abbrev pub HoldsBefore : (ℕ → Type 0) → PlainWork → ℕ → Type 0
HoldsBefore P work i = (j : ℕ) (z : WorkOutcome) → j < i → slice_get work.outcomes j ≡ Some z → P z.number

-- at first no place is before
pub holds_start : (P : ℕ → Type 0) (work : PlainWork) → HoldsBefore P work 0
holds_start P work j z l e = absurd (omega (arith, l))

-- one place more
pub holds_more : (P : ℕ → Type 0) (work : PlainWork) (i : ℕ) (y : WorkOutcome) → slice_get work.outcomes i ≡ Some y → HoldsBefore P work i → P y.number → HoldsBefore P work (i + 1)
holds_more P work i y at before here j z l e = ⊎_elim
    (λ k. before j z k e)
    (λ k. let same : j ≡ i = omega (arith, k, l) in subst (λ w. P w.number) (same_Some y z (sym at ∙ (ap (slice_get work.outcomes) (sym same) ∙ e))) here)
    (cases_lt j i)

-- what holds of numbers that aren't alive, and of all before the place, holds of each number below the place's
pub holds_below : (P : ℕ → Type 0) (work : PlainWork) → IsWork work → ((p : ℕ) → outcome_at work p ≡ None → P p) → (i : ℕ) (y : WorkOutcome) → slice_get work.outcomes i ≡ Some y → HoldsBefore P work i →
    (p : ℕ) → p < y.number → P p
holds_below P work ok dead i y at before p l = go (outcome_at work p) refl
  where
    go : (found : Option WorkOutcome) → outcome_at work p ≡ found → P p
    go None e = dead p e
    go (Some z) e =
        let k = place_found work.outcomes p z e in
        let n = found-number work.outcomes p z e in
        let r : k.0 < i = earlier 0 work.outcomes i k.0 y z ok.numbers_rise at k.1 (omega (arith, n, l)) in
        subst P n (before k.0 z r k.1)

-- it holds of each number, where it holds of all before the end
pub holds_always : (P : ℕ → Type 0) (work : PlainWork) → ((p : ℕ) → outcome_at work p ≡ None → P p) → (i : ℕ) → length work.outcomes ≤ i → HoldsBefore P work i → (p : ℕ) → P p
holds_always P work dead i all before p = go (outcome_at work p) refl
  where
    go : (found : Option WorkOutcome) → outcome_at work p ≡ found → P p
    go None e = dead p e
    go (Some z) e =
        let k = place_found work.outcomes p z e in
        let l = slice_get_within work.outcomes k.0 z k.1 in
        subst P (found-number work.outcomes p z e) (before k.0 z (omega (arith, l, all)) k.1)

-- what is read at a place is the outcome that stands there
pub item_at : (outcomes : List WorkOutcome) (items : List Outcome) (i : ℕ) (item : Outcome) → map plain_outcome items ≡ outcomes → i < length items → item ≡ slice_index_or items i item → slice_get outcomes i ≡ Some (plain_outcome item)
item_at outcomes items i item seen l is =
    ap (λ (zs : List WorkOutcome). slice_get zs i) (sym seen) ∙ (slice_get-map plain_outcome items i ∙ ap (option_map plain_outcome) (slice_get_read items (length items) i item refl l is))

-- past all items all outcomes are looked at
pub past_all : (outcomes : List WorkOutcome) (items : List Outcome) (i : ℕ) → map plain_outcome items ≡ outcomes → length items ≤ i → length outcomes ≤ i
past_all outcomes items i seen l = omega (arith, ap length seen, length-map items plain_outcome, l)
