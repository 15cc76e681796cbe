-- Sums over the alive outcomes of a work, before and after an edit.
use Rattle.std.proofs.Common.{◌≡◌, ⊎_elim, ℕ, ◌+◌, ◌≤◌, not, ◌==◌, List, [], ◌∷◌, Bool, IsTrue, refl, sym, subst, ap, ◌∙◌, arith, eq-eqb, ne_eqb}
use Rattle.std.specs.List.{All, filter, sum_by}
use Rattle.std.proofs.lemmas.Bool.{cond-true, cond-false, cases_eq}
use Rattle.std.proofs.lemmas.List.Elements.{All-head, All-tail, All-weaker}
use Rattle.std.proofs.lemmas.List.Sums.{sum_by-cons}
use Rattle.std.proofs.lemmas.List.Filters.{sum_by-filter_both}
use Rattle.nego_base.specs.Members.{is_in}
use Rattle.nego_base.proofs.Members.{is_in_none, is_in-cases}
use Rattle.nego_expr.specs.Work.{WorkOutcome}
use Rattle.nego_expr.specs.Edits.{with_outcome, with_nodes_at}
use Rattle.nego_expr.proofs.WorkEdits.{numbers_of, with_node}
use Rattle.nego_expr.proofs.NodesAt.{own_first, other_first}

module _ (value : WorkOutcome → ℕ) where
  -- those that pass a test have no more
  pub sum-filter_le : (test : WorkOutcome → Bool) (outcomes : List WorkOutcome) → sum_by value (filter test outcomes) ≤ sum_by value outcomes
  sum-filter_le test outcomes = let both = sum_by-filter_both test (λ x. not (test x)) (λ _. refl) value outcomes in omega (arith, both)

  -- new nodes change no sum of what reads no node
  pub sum-with_nodes_at : ((i : ℕ) (x : WorkOutcome) → value (with_node i x) ≡ value x) → (n i : ℕ) (outcomes : List WorkOutcome) → sum_by value (with_nodes_at n i outcomes) ≡ sum_by value outcomes
  sum-with_nodes_at same n i [] = refl
  sum-with_nodes_at same n i (y ∷ ys) = ⊎_elim
      (λ e. ap (sum_by value) (own_first n i y ys e) ∙ one (with_node i y) (with_nodes_at n (i + 1) ys) (same i y) (sum-with_nodes_at same n (i + 1) ys))
      (λ e. ap (sum_by value) (other_first n i y ys e) ∙ one y (with_nodes_at n i ys) refl (sum-with_nodes_at same n i ys))
      (cases_eq y.atom n)
    where
      one : (z : WorkOutcome) (zs : List WorkOutcome) → value z ≡ value y → sum_by value zs ≡ sum_by value ys → sum_by value (z ∷ zs) ≡ sum_by value (y ∷ ys)
      one z zs e k = let a = sum_by-cons value z zs in let b = sum_by-cons value y ys in omega (arith, a, b, e, k)

  -- an outcome that has become another with no more
  pub sum-with_outcome_le : (new : WorkOutcome) (outcomes : List WorkOutcome) → All (λ x. x.number ≡ new.number → value new ≤ value x) outcomes → sum_by value (with_outcome new outcomes) ≤ sum_by value outcomes
  sum-with_outcome_le new [] less = omega arith
  sum-with_outcome_le new (y ∷ ys) less = ⊎_elim
      (λ e. subst (λ z. sum_by value (z ∷ with_outcome new ys) ≤ sum_by value (y ∷ ys)) (sym (cond-true (y.number == new.number) new y (eq-eqb y.number new.number e)))
      (one new (All-head Less y ys less e) (sum-with_outcome_le new ys (All-tail Less y ys less))))
      (λ other. subst (λ z. sum_by value (z ∷ with_outcome new ys) ≤ sum_by value (y ∷ ys)) (sym (cond-false (y.number == new.number) new y (ne_eqb y.number new.number other)))
      (one y (omega arith) (sum-with_outcome_le new ys (All-tail Less y ys less))))
      (cases_eq y.number new.number)
    where
      Less : WorkOutcome → Type 0
      Less x = x.number ≡ new.number → value new ≤ value x

      one : (z : WorkOutcome) → value z ≤ value y → sum_by value (with_outcome new ys) ≤ sum_by value ys → sum_by value (z ∷ with_outcome new ys) ≤ sum_by value (y ∷ ys)
      one z l rest =
          let a = sum_by-cons value z (with_outcome new ys) in
          let b = sum_by-cons value y ys in
          omega (arith, rest, a, b, l)

  -- one that is there and has become another with less
  pub sum-with_outcome_lt : (new : WorkOutcome) (outcomes : List WorkOutcome) → All (λ x. x.number ≡ new.number → value new + 1 ≤ value x) outcomes → IsTrue (is_in new.number (numbers_of outcomes)) →
      sum_by value (with_outcome new outcomes) + 1 ≤ sum_by value outcomes
  sum-with_outcome_lt new [] less there = absurd (is_in_none new.number [] refl there)
  sum-with_outcome_lt new (y ∷ ys) less there = ⊎_elim
      (λ e. subst (λ z. sum_by value (z ∷ with_outcome new ys) + 1 ≤ sum_by value (y ∷ ys)) (sym (cond-true (y.number == new.number) new y (eq-eqb y.number new.number e)))
      (let l : value new + 1 ≤ value y = All-head Less y ys less e in
      let rest = sum-with_outcome_le new ys (All-weaker Less (λ x. x.number ≡ new.number → value new ≤ value x) (λ x h q. let m : value new + 1 ≤ value x = h q in omega (arith, m)) ys (All-tail Less y ys less)) in
      let a = sum_by-cons value new (with_outcome new ys) in
      let b = sum_by-cons value y ys in
      omega (arith, l, rest, a, b)))
      (λ other. subst (λ z. sum_by value (z ∷ with_outcome new ys) + 1 ≤ sum_by value (y ∷ ys)) (sym (cond-false (y.number == new.number) new y (ne_eqb y.number new.number other)))
      (let rest = sum-with_outcome_lt new ys (All-tail Less y ys less) (⊎_elim (λ e. absurd (other (sym e))) (λ m. m) (is_in-cases new.number y.number (numbers_of ys) there)) in
      let a = sum_by-cons value y (with_outcome new ys) in
      let b = sum_by-cons value y ys in
      omega (arith, rest, a, b)))
      (cases_eq y.number new.number)
    where
      Less : WorkOutcome → Type 0
      Less x = x.number ≡ new.number → value new + 1 ≤ value x
