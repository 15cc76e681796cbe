-- Laws of the places of pairs.
use Rattle.std.proofs.Common.{◌≡◌, ℕ, ◌+◌, ◌*◌, ◌/◌, ◌<◌, List, length, set, slice_index_or, Option, Some, None, inl, inr, sym, subst, ap, ◌∙◌, arith}
use Rattle.std.proofs.lemmas.Bool.{cases_eq}
use Rattle.std.proofs.lemmas.Nat.{div-mul-add}
use Rattle.std.proofs.lemmas.List.{get_or-set_same, get_or-set_other}
use Rattle.std.proofs.lemmas.Option.{same_Some}

-- pairs of one place are the same
pub same_place : (count i x j y : ℕ) → x < count → y < count → i * count + x ≡ j * count + y → (i ≡ j) × (x ≡ y)
same_place count i x j y p q e =
    let nodes : i ≡ j = sym (div-mul-add i count x p) ∙ ap (λ n. n / count) e ∙ div-mul-add j count y q in
    let starts : i * count ≡ j * count = ap (λ n. n * count) nodes in
    (nodes, omega (arith, e, starts))

-- the place of a pair is one of so many
pub place_below : (nodes count i x : ℕ) → i < nodes → x < count → i * count + x < nodes * count
place_below nodes count i x p q = grind arith

-- what each row that is kept has, each has once one more is kept that has it too
pub each_kept : (R : ℕ → ℕ → List ℕ → Type 0) (nodes count : ℕ) (kept : List (Option (List ℕ))) (i x : ℕ) (row : List ℕ) → length kept ≡ nodes * count → i < nodes → x < count → R i x row →
    (j y : ℕ) (other : List ℕ) → y < count → (slice_index_or kept (j * count + y) None ≡ Some other → R j y other) → slice_index_or (set kept (i * count + x) (Some row)) (j * count + y) None ≡ Some other → R j y other
each_kept R nodes count kept i x row long p q here j y other r before found = elim (cases_eq (j * count + y) (i * count + x)) [
  | inl same ↦
      let pair = same_place count i x j y q r (sym same) in
      let there : i * count + x < length kept = rw long (place_below nodes count i x p q) in
      let is_row : row ≡ other = same_Some row other (sym (ap (λ n. slice_index_or (set kept (i * count + x) (Some row)) n None) same ∙ get_or-set_same kept (i * count + x) (Some row) None there) ∙ found) in
      let at_node = subst (λ n. R n x row) pair.0 here in
      let at_start = subst (λ n. R j n row) pair.1 at_node in
      subst (R j y) is_row at_start
  | inr differ ↦ before (sym (get_or-set_other kept (i * count + x) (j * count + y) (Some row) None differ) ∙ found)
]
