-- Laws of the lists of a fresh work.
use Rattle.std.proofs.Common.{◌≡◌, ℕ, zero, suc, ◌+◌, ◌≤◌, Bool, true, false, ◌==◌, cond, List, [], ◌∷◌, length, map, filter, slice_get, Some, option_map, IsTrue, refl, sym, subst, ap, ◌∙◌, arith, eq-eqb, ne_eqb}
use Rattle.std.proofs.lemmas.Bool.{cond-true, cond-false}
use Rattle.std.proofs.lemmas.Option.{none-some, same_Some}
use Rattle.std.proofs.lemmas.List.Elements.{All-nil, All-cons}
use Rattle.std.specs.List.{All, range_with_len}
use Rattle.std.specs.Option.{option_map_or, option_to_list}
use Rattle.nego_base.specs.Members.{is_in, IsRising, RisesFrom}
use Rattle.nego_model.specs.Diagram.{PlainAtom, PlainOutcome, PlainDiagram, outcomes_from}
use Rattle.nego_base.proofs.Members.{is_in-head, is_in-tail}
use Rattle.nego_expr.specs.Work.{WorkOutcome, parties_among, outcome_among}
use Rattle.nego_expr.specs.Fresh.{atoms_from, fresh_at, outcomes_of}

-- a range rises from where it begins
pub rises-range : (low n count : ℕ) → low ≤ n → RisesFrom low (range_with_len n count)
rises-range low n zero h = tt
rises-range low n (suc count) h = (h, rises-range (n + 1) (n + 1) count (omega arith))

-- a rising list of which all items are one number has at most one item
pub one_at_most : (xs : List ℕ) → IsRising xs → ((m p : ℕ) → IsTrue (is_in m xs) → IsTrue (is_in p xs) → m ≡ p) → option_to_list (slice_get xs 0) ≡ xs
one_at_most [] h same = refl
one_at_most (x ∷ []) h same = refl
one_at_most (x ∷ y ∷ ys) h same =
    let below : x + 1 ≤ y = h.1.0 in
    let e : x ≡ y = same x y (is_in-head x (y ∷ ys)) (is_in-tail y x (y ∷ ys) (is_in-head y ys)) in
    absurd (let no_more : ⊥ = omega (arith, below, e) in no_more)

-- ---- atoms

-- the atoms' numbers are their places
pub numbers-atoms_from : (n : ℕ) (atoms : List PlainAtom) → map (λ atom. atom.number) (atoms_from n atoms) ≡ range_with_len n (length atoms)
numbers-atoms_from n [] = refl
numbers-atoms_from n (atom ∷ atoms) = ap (◌∷◌ n) (numbers-atoms_from (n + 1) atoms)

-- the parties of the atom at a place
pub parties-atoms_from : (n : ℕ) (atoms : List PlainAtom) (k : ℕ) → parties_among (atoms_from n atoms) (n + k) ≡ option_map_or (λ atom. atom.parties) (slice_get atoms k) []
parties-atoms_from n [] k = refl
parties-atoms_from n (atom ∷ atoms) zero = cond-true (n == n + 0) atom.parties (parties_among (atoms_from (n + 1) atoms) (n + 0)) (eq-eqb n (n + 0) (omega arith))
parties-atoms_from n (atom ∷ atoms) (suc k) =
    cond-false (n == n + suc k) atom.parties (parties_among (atoms_from (n + 1) atoms) (n + suc k)) (ne_eqb n (n + suc k) (λ e. let no_more : ⊥ = omega (arith, e) in no_more))
    ∙ subst (λ m. parties_among (atoms_from (n + 1) atoms) m ≡ option_map_or (λ a. a.parties) (slice_get atoms k) []) (omega arith) (parties-atoms_from (n + 1) atoms k)

-- ---- outcomes

-- an outcome of the diagram as the alive outcome of a number
abbrev pub fresh_outcome : PlainDiagram → ℕ → PlainOutcome → WorkOutcome
fresh_outcome diagram o outcome = record (fresh_at diagram o) { atom = outcome.atom }

-- the number of the outcome at a place is among those of its atom
pub is_in_outcomes_from : (n : ℕ) (outcomes : List PlainOutcome) (k : ℕ) (x : PlainOutcome) → slice_get outcomes k ≡ Some x → IsTrue (is_in (n + k) (outcomes_from n outcomes x.atom))
is_in_outcomes_from n [] k x h = absurd (none-some x h)
is_in_outcomes_from n (y ∷ ys) zero x h =
    subst (λ o. IsTrue (is_in o (outcomes_from n (y ∷ ys) x.atom))) (let e : n ≡ n + 0 = omega arith in e)
    (subst (λ os. IsTrue (is_in n os)) (sym (cond-true (y.atom == x.atom) (n ∷ outcomes_from (n + 1) ys x.atom) (outcomes_from (n + 1) ys x.atom) (eq-eqb y.atom x.atom (ap (λ z. z.atom) (same_Some y x h)))))
    (is_in-head n (outcomes_from (n + 1) ys x.atom)))
is_in_outcomes_from n (y ∷ ys) (suc k) x h =
    go (y.atom == x.atom) (subst (λ o. IsTrue (is_in o (outcomes_from (n + 1) ys x.atom))) (let e : n + 1 + k ≡ n + suc k = omega arith in e) (is_in_outcomes_from (n + 1) ys k x h))
  where
    go : (b : Bool) → IsTrue (is_in (n + suc k) (outcomes_from (n + 1) ys x.atom)) → IsTrue (is_in (n + suc k) (cond b (n ∷ outcomes_from (n + 1) ys x.atom) (outcomes_from (n + 1) ys x.atom)))
    go true m = is_in-tail (n + suc k) n (outcomes_from (n + 1) ys x.atom) m
    go false m = m

module _ (diagram : PlainDiagram) where
  -- the outcomes' numbers are their places
  pub numbers-outcomes_of : (n : ℕ) (outcomes : List PlainOutcome) → map (λ outcome. outcome.number) (outcomes_of diagram n outcomes) ≡ range_with_len n (length outcomes)
  numbers-outcomes_of n [] = refl
  numbers-outcomes_of n (x ∷ xs) = ap (◌∷◌ n) (numbers-outcomes_of (n + 1) xs)

  -- the alive outcomes of an atom have the numbers of its outcomes
  pub outcomes_of-at_atom : (n : ℕ) (outcomes : List PlainOutcome) (m : ℕ) → map (λ outcome. outcome.number) (filter (λ outcome. outcome.atom == m) (outcomes_of diagram n outcomes)) ≡ outcomes_from n outcomes m
  outcomes_of-at_atom n [] m = refl
  outcomes_of-at_atom n (x ∷ xs) m = go (x.atom == m) (outcomes_of-at_atom (n + 1) xs m)
    where
      go : (b : Bool) → map (λ outcome. outcome.number) (filter (λ outcome. outcome.atom == m) (outcomes_of diagram (n + 1) xs)) ≡ outcomes_from (n + 1) xs m →
          map (λ outcome. outcome.number) (cond b (fresh_outcome diagram n x ∷ filter (λ outcome. outcome.atom == m) (outcomes_of diagram (n + 1) xs)) (filter (λ outcome. outcome.atom == m) (outcomes_of diagram (n + 1) xs)))
          ≡ cond b (n ∷ outcomes_from (n + 1) xs m) (outcomes_from (n + 1) xs m)
      go true h = ap (◌∷◌ n) h
      go false h = h

  -- the alive outcome that is found by a number
  pub outcomes_of-found : (n : ℕ) (outcomes : List PlainOutcome) (k : ℕ) → outcome_among (outcomes_of diagram n outcomes) (n + k) ≡ option_map (fresh_outcome diagram (n + k)) (slice_get outcomes k)
  outcomes_of-found n [] k = refl
  outcomes_of-found n (x ∷ xs) zero =
      cond-true (n == n + 0) (Some (fresh_outcome diagram n x)) (outcome_among (outcomes_of diagram (n + 1) xs) (n + 0)) (eq-eqb n (n + 0) (omega arith))
      ∙ ap (λ o. Some (fresh_outcome diagram o x)) (let e : n ≡ n + 0 = omega arith in e)
  outcomes_of-found n (x ∷ xs) (suc k) =
      cond-false (n == n + suc k) (Some (fresh_outcome diagram n x)) (outcome_among (outcomes_of diagram (n + 1) xs) (n + suc k)) (ne_eqb n (n + suc k) (λ e. let no_more : ⊥ = omega (arith, e) in no_more))
      ∙ subst (λ o. outcome_among (outcomes_of diagram (n + 1) xs) o ≡ option_map (fresh_outcome diagram o) (slice_get xs k)) (let e : n + 1 + k ≡ n + suc k = omega arith in e) (outcomes_of-found (n + 1) xs k)

  -- what holds of the alive outcome of each outcome of the diagram holds of each alive outcome
  pub All-outcomes_of : (P : WorkOutcome → Type 0) (n : ℕ) (outcomes : List PlainOutcome) → ((k : ℕ) (x : PlainOutcome) → slice_get outcomes k ≡ Some x → P (fresh_outcome diagram (n + k) x)) → All P (outcomes_of diagram n outcomes)
  All-outcomes_of P n [] h = All-nil P
  All-outcomes_of P n (x ∷ xs) h =
      All-cons P (fresh_outcome diagram n x) (outcomes_of diagram (n + 1) xs) (subst (λ o. P (fresh_outcome diagram o x)) (let e : n + 0 ≡ n = omega arith in e) (h 0 x refl))
      (All-outcomes_of P (n + 1) xs (λ k y m. subst (λ o. P (fresh_outcome diagram o y)) (let e : n + suc k ≡ n + 1 + k = omega arith in e) (h (suc k) y m)))
