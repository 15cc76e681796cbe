-- Laws of outcomes of which those of one atom have new nodes.
use Rattle.std.proofs.Common.{◌≡◌, ◌≢◌, ⊎_elim, ℕ, suc, ◌+◌, Bool, true, false, ◌==◌, cond, List, [], ◌∷◌, ◌++◌, slice_get, Some, refl, sym, subst, ap, ap₂, ◌∙◌, arith, eq-eqb, ne_eqb, add-zero}
use Rattle.std.proofs.lemmas.Bool.{cond-true, cond-false, cases_eq}
use Rattle.std.proofs.lemmas.Option.{none-some}
use Rattle.nego_model.specs.Expression.{Then}
use Rattle.std.proofs.lemmas.List.Elements.{All-nil, All-cons, All-head, All-tail}
use Rattle.std.specs.List.{All, filter}
use Rattle.nego_expr.specs.Work.{WorkOutcome, outcome_among}
use Rattle.nego_expr.specs.Edits.{nodes_then, with_nodes_at}
use Rattle.nego_expr.proofs.Alive.{outcome_among_later}
use Rattle.nego_expr.proofs.WorkEdits.{numbers_of, with_node, found_cases}

-- the outcomes of an atom
abbrev pub of_atom : ℕ → List WorkOutcome → List WorkOutcome
of_atom n outcomes = filter (λ z. z.atom == n) outcomes

-- ---- the first outcome is of the atom, or it isn't

pub own_first : (n i : ℕ) (y : WorkOutcome) (ys : List WorkOutcome) → y.atom ≡ n → with_nodes_at n i (y ∷ ys) ≡ with_node i y ∷ with_nodes_at n (i + 1) ys
own_first n i y ys e = cond-true (y.atom == n) (with_node i y ∷ with_nodes_at n (i + 1) ys) (y ∷ with_nodes_at n i ys) (eq-eqb y.atom n e)

pub other_first : (n i : ℕ) (y : WorkOutcome) (ys : List WorkOutcome) → y.atom ≢ n → with_nodes_at n i (y ∷ ys) ≡ y ∷ with_nodes_at n i ys
other_first n i y ys e = cond-false (y.atom == n) (with_node i y ∷ with_nodes_at n (i + 1) ys) (y ∷ with_nodes_at n i ys) (ne_eqb y.atom n e)

pub own_of : (n : ℕ) (y : WorkOutcome) (ys : List WorkOutcome) → y.atom ≡ n → of_atom n (y ∷ ys) ≡ y ∷ of_atom n ys
own_of n y ys e = cond-true (y.atom == n) (y ∷ of_atom n ys) (of_atom n ys) (eq-eqb y.atom n e)

pub other_of : (n : ℕ) (y : WorkOutcome) (ys : List WorkOutcome) → y.atom ≢ n → of_atom n (y ∷ ys) ≡ of_atom n ys
other_of n y ys e = cond-false (y.atom == n) (y ∷ of_atom n ys) (of_atom n ys) (ne_eqb y.atom n e)

-- ---- numbers

first_passing : (test : WorkOutcome → Bool) (z y : WorkOutcome) (zs ys : List WorkOutcome) → test z ≡ test y → z.number ≡ y.number → numbers_of (filter test zs) ≡ numbers_of (filter test ys) →
    numbers_of (filter test (z ∷ zs)) ≡ numbers_of (filter test (y ∷ ys))
first_passing test z y zs ys t n k = ap (λ b. numbers_of (cond b (z ∷ filter test zs) (filter test zs))) t ∙ go (test y)
  where
    go : (b : Bool) → numbers_of (cond b (z ∷ filter test zs) (filter test zs)) ≡ numbers_of (cond b (y ∷ filter test ys) (filter test ys))
    go true = ap₂ ◌∷◌ n k
    go false = k

-- the numbers of those that pass a test stay, where the test reads no node
pub passing-with_nodes_at : (test : WorkOutcome → Bool) → ((i : ℕ) (x : WorkOutcome) → test (with_node i x) ≡ test x) → (n i : ℕ) (outcomes : List WorkOutcome) →
    numbers_of (filter test (with_nodes_at n i outcomes)) ≡ numbers_of (filter test outcomes)
passing-with_nodes_at test h n i [] = refl
passing-with_nodes_at test h n i (y ∷ ys) = ⊎_elim
    (λ e. ap (λ zs. numbers_of (filter test zs)) (own_first n i y ys e)
    ∙ first_passing test (with_node i y) y (with_nodes_at n (i + 1) ys) ys (h i y) refl (passing-with_nodes_at test h n (i + 1) ys))
    (λ e. ap (λ zs. numbers_of (filter test zs)) (other_first n i y ys e)
    ∙ first_passing test y y (with_nodes_at n i ys) ys refl refl (passing-with_nodes_at test h n i ys))
    (cases_eq y.atom n)

-- the numbers stay
pub numbers-with_nodes_at : (n i : ℕ) (outcomes : List WorkOutcome) → numbers_of (with_nodes_at n i outcomes) ≡ numbers_of outcomes
numbers-with_nodes_at n i [] = refl
numbers-with_nodes_at n i (y ∷ ys) = ⊎_elim
    (λ e. ap numbers_of (own_first n i y ys e) ∙ ap (◌∷◌ y.number) (numbers-with_nodes_at n (i + 1) ys))
    (λ e. ap numbers_of (other_first n i y ys e) ∙ ap (◌∷◌ y.number) (numbers-with_nodes_at n i ys))
    (cases_eq y.atom n)

-- ---- what is found

-- what was found and is of the atom is found at its place, with the node of this place
pub found-nodes_at : (n i : ℕ) (outcomes : List WorkOutcome) (o : ℕ) (x : WorkOutcome) → outcome_among outcomes o ≡ Some x → x.atom ≡ n →
    (k : ℕ) × (slice_get (of_atom n outcomes) k ≡ Some x) × (outcome_among (with_nodes_at n i outcomes) o ≡ Some (with_node (i + k) x))
found-nodes_at n i [] o x h a = absurd (none-some x h)
found-nodes_at n i (y ∷ ys) o x h a = ⊎_elim
    (λ e. ⊎_elim
    (λ k. (
      0,
      ap (λ zs. slice_get zs 0) (own_of n y ys e) ∙ ap (λ z. Some z) k.1,
      ap (λ zs. outcome_among zs o) (own_first n i y ys e)
          ∙ (cond-true (y.number == o) (Some (with_node i y)) (outcome_among (with_nodes_at n (i + 1) ys) o) (eq-eqb y.number o k.0)
          ∙ (ap (λ j. Some (with_node j y)) (sym (add-zero i)) ∙ ap (λ z. Some (with_node (i + 0) z)) k.1)),
    ))
    (λ k.
    let q = found-nodes_at n (i + 1) ys o x k.1 a in
    let s : i + 1 + q.0 ≡ i + suc q.0 = omega arith in (
      suc q.0,
      ap (λ zs. slice_get zs (suc q.0)) (own_of n y ys e) ∙ q.1,
      ap (λ zs. outcome_among zs o) (own_first n i y ys e)
          ∙ (outcome_among_later (with_node i y) (with_nodes_at n (i + 1) ys) o k.0 ∙ (q.2 ∙ ap (λ j. Some (with_node j x)) s)),
    ))
    (found_cases y ys o x h))
    (λ e. ⊎_elim
    (λ k. absurd (e (ap (λ z. z.atom) k.1 ∙ a)))
    (λ k.
    let q = found-nodes_at n i ys o x k.1 a in (
      q.0,
      ap (λ zs. slice_get zs q.0) (other_of n y ys e) ∙ q.1,
      ap (λ zs. outcome_among zs o) (other_first n i y ys e) ∙ (outcome_among_later y (with_nodes_at n i ys) o k.0 ∙ q.2),
    ))
    (found_cases y ys o x h))
    (cases_eq y.atom n)

-- what was found and is of another atom is found as it was
pub found-nodes_other : (n i : ℕ) (outcomes : List WorkOutcome) (o : ℕ) (x : WorkOutcome) → outcome_among outcomes o ≡ Some x → x.atom ≢ n → outcome_among (with_nodes_at n i outcomes) o ≡ Some x
found-nodes_other n i [] o x h a = absurd (none-some x h)
found-nodes_other n i (y ∷ ys) o x h a = ⊎_elim
    (λ e. ap (λ zs. outcome_among zs o) (own_first n i y ys e)
    ∙ ⊎_elim
    (λ k. absurd (a (ap (λ z. z.atom) (sym k.1) ∙ e)))
    (λ k. outcome_among_later (with_node i y) (with_nodes_at n (i + 1) ys) o k.0 ∙ found-nodes_other n (i + 1) ys o x k.1 a)
    (found_cases y ys o x h))
    (λ e. ap (λ zs. outcome_among zs o) (other_first n i y ys e)
    ∙ ⊎_elim
    (λ k. cond-true (y.number == o) (Some y) (outcome_among (with_nodes_at n i ys) o) (eq-eqb y.number o k.0) ∙ ap (λ z. Some z) k.1)
    (λ k. outcome_among_later y (with_nodes_at n i ys) o k.0 ∙ found-nodes_other n i ys o x k.1 a)
    (found_cases y ys o x h))
    (cases_eq y.atom n)

-- what holds of each outcome of another atom, and of each of the atom with the node of its place, holds of each now
pub All-with_nodes_at : (P : WorkOutcome → Type 0) (n i : ℕ) (outcomes : List WorkOutcome) → All (λ x. x.atom ≢ n → P x) outcomes →
    ((k : ℕ) (x : WorkOutcome) → slice_get (of_atom n outcomes) k ≡ Some x → P (with_node (i + k) x)) → All P (with_nodes_at n i outcomes)
All-with_nodes_at P n i [] h g = All-nil P
All-with_nodes_at P n i (y ∷ ys) h g = ⊎_elim
    (λ e. subst (All P) (sym (own_first n i y ys e))
    (All-cons P (with_node i y) (with_nodes_at n (i + 1) ys) (subst (λ j. P (with_node j y)) (add-zero i) (g 0 y (ap (λ zs. slice_get zs 0) (own_of n y ys e))))
    (All-with_nodes_at P n (i + 1) ys (All-tail Other y ys h)
    (λ k x q. let s : i + suc k ≡ i + 1 + k = omega arith in subst (λ j. P (with_node j x)) s (g (suc k) x (ap (λ zs. slice_get zs (suc k)) (own_of n y ys e) ∙ q))))))
    (λ e. subst (All P) (sym (other_first n i y ys e))
    (All-cons P y (with_nodes_at n i ys) (All-head Other y ys h e)
    (All-with_nodes_at P n i ys (All-tail Other y ys h) (λ k x q. g k x (ap (λ zs. slice_get zs k) (other_of n y ys e) ∙ q)))))
    (cases_eq y.atom n)
  where
    Other : WorkOutcome → Type 0
    Other x = x.atom ≢ n → P x

-- a node for one outcome more
pub nodes_then-push : (x : ℕ) (zs : List WorkOutcome) (y : WorkOutcome) → nodes_then x (zs ++ y ∷ []) ≡ nodes_then x zs ++ Then x y.node ∷ []
nodes_then-push x [] y = refl
nodes_then-push x (z ∷ zs) y = ap (◌∷◌ (Then x z.node)) (nodes_then-push x zs y)
