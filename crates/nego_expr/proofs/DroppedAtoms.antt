-- The outcomes of an atom taken away one by one.
use Rattle.std.proofs.Common.{◌≡◌, ⊎_elim, ℕ, suc, ◌<◌, ◌≤◌, ◌==◌, not, nat_lt, cond, Bool, true, false, List, [], ◌∷◌, length, Some, None, refl, sym, ap, ◌∙◌, arith, eq-eqb, eqb-true, ne_eqb}
use Rattle.std.proofs.lemmas.Bool.{cond-true, cond-false, le-ltb, not_from_false}
use Rattle.std.proofs.lemmas.Option.{none-some}
use Rattle.std.proofs.lemmas.List.Elements.{All-head, All-tail, All-weaker, All-filter, filter_passes}
use Rattle.std.specs.List.{All, filter, find}
use Rattle.nego_base.proofs.BoolLaws.{length-filter_le}
use Rattle.nego_base.specs.Members.{IsRising}
use Rattle.nego_expr.specs.Work.{WorkOutcome, PlainWork, outcome_among}
use Rattle.nego_expr.specs.Edits.{without_outcome}
use Rattle.nego_expr.proofs.Alive.{each_found}
use Rattle.nego_expr.proofs.EditCalls.{only_found}
use Rattle.nego_expr.proofs.NodesAt.{of_atom}
use Rattle.nego_expr.proofs.Searching.{find_all}
use Rattle.nego_expr.proofs.WorkEdits.{numbers_of, found_cases}

-- the work with the outcomes of other atoms alone
abbrev pub others : ℕ → PlainWork → PlainWork
others n work = record work { outcomes = filter (λ z. not (z.atom == n)) work.outcomes }

-- where none of the atom is found, the outcomes are of other atoms
none_own : (n : ℕ) (zs : List WorkOutcome) → find (λ w. not (nat_lt w.number 0)) (of_atom n zs) ≡ None → filter (λ z. not (z.atom == n)) zs ≡ zs
none_own n [] h = refl
none_own n (z ∷ zs) h = go (z.atom == n) h (none_own n zs)
  where
    go : (b : Bool) → find (λ w. not (nat_lt w.number 0)) (cond b (z ∷ of_atom n zs) (of_atom n zs)) ≡ None → (find (λ w. not (nat_lt w.number 0)) (of_atom n zs) ≡ None → filter (λ w. not (w.atom == n)) zs ≡ zs) →
        cond (not b) (z ∷ filter (λ w. not (w.atom == n)) zs) (filter (λ w. not (w.atom == n)) zs) ≡ z ∷ zs
    go true e k = absurd (none-some z (sym e ∙ cond-true (not (nat_lt z.number 0)) (Some z) (find (λ w. not (nat_lt w.number 0)) (of_atom n zs)) (not_from_false (nat_lt z.number 0) (le-ltb z.number 0 (omega arith)))))
    go false e k = ap (◌∷◌ z) (k e)

-- then the work is the one wanted
pub none_left : (n : ℕ) (work : PlainWork) → find (λ w. not (nat_lt w.number 0)) (filter (λ z. z.atom == n) work.outcomes) ≡ None → others n work ≡ work
none_left n work h = ap (λ zs. record work { outcomes = zs }) (none_own n work.outcomes h)

module _ (n low : ℕ) (work : PlainWork) (rise : IsRising (numbers_of work.outcomes)) (y : WorkOutcome) (found : find (λ w. not (nat_lt w.number low)) (of_atom n work.outcomes) ≡ Some y) where
  -- what is found is alive
  pub next_alive : outcome_among work.outcomes y.number ≡ Some y
  next_alive = find_all Found (λ w. not (nat_lt w.number low)) (of_atom n work.outcomes) y found (All-filter (λ z. z.atom == n) Found work.outcomes (each_found work.outcomes rise))
    where
      Found : WorkOutcome → Type 0
      Found z = outcome_among work.outcomes z.number ≡ Some z

  -- it is of the atom
  next_own : (y.atom == n) ≡ true
  next_own = find_all (λ z. (z.atom == n) ≡ true) (λ w. not (nat_lt w.number low)) (of_atom n work.outcomes) y found (filter_passes (λ z. z.atom == n) work.outcomes)

  -- without it those of other atoms are the same
  pub others_same : others n (record work { outcomes = without_outcome y.number work.outcomes }) ≡ others n work
  others_same = ap (λ zs. record work { outcomes = zs })
      (same work.outcomes (All-weaker (λ z. z.number ≡ y.number → z ≡ y) Own (λ z k e. ap (λ w. w.atom == n) (k e) ∙ next_own) work.outcomes (only_found work.outcomes y.number y rise next_alive)))
    where
      Own : WorkOutcome → Type 0
      Own z = z.number ≡ y.number → (z.atom == n) ≡ true

      same : (zs : List WorkOutcome) → All Own zs → filter (λ z. not (z.atom == n)) (without_outcome y.number zs) ≡ filter (λ z. not (z.atom == n)) zs
      same [] h = refl
      same (z ∷ zs) h = go (z.number == y.number) refl (same zs (All-tail Own z zs h))
        where
          rest : List WorkOutcome
          rest = filter (λ w. not (w.atom == n)) zs

          go : (b : Bool) → (z.number == y.number) ≡ b → filter (λ w. not (w.atom == n)) (without_outcome y.number zs) ≡ rest →
              filter (λ w. not (w.atom == n)) (cond (not b) (z ∷ without_outcome y.number zs) (without_outcome y.number zs)) ≡ cond (not (z.atom == n)) (z ∷ rest) rest
          go true e k = k ∙ sym (cond-false (not (z.atom == n)) (z ∷ rest) rest (ap not (All-head Own z zs h (eqb-true z.number y.number e))))
          go false e k = ap (λ ws. cond (not (z.atom == n)) (z ∷ ws) ws) k

  -- there are fewer
  pub one_fewer : length (without_outcome y.number work.outcomes) < length work.outcomes
  one_fewer = fewer work.outcomes next_alive
    where
      fewer : (zs : List WorkOutcome) → outcome_among zs y.number ≡ Some y → length (without_outcome y.number zs) < length zs
      fewer [] h = absurd (none-some y h)
      fewer (z ∷ zs) h = ⊎_elim
          (λ k.
          let gone : length (without_outcome y.number (z ∷ zs)) ≡ length (without_outcome y.number zs) = ap (λ b. length (cond (not b) (z ∷ without_outcome y.number zs) (without_outcome y.number zs))) (eq-eqb z.number y.number k.0) in
          let few : length (without_outcome y.number zs) ≤ length zs = length-filter_le (λ w. not (w.number == y.number)) zs in
          omega (arith, gone, few))
          (λ k.
          let kept : length (without_outcome y.number (z ∷ zs)) ≡ suc (length (without_outcome y.number zs)) = ap (λ b. length (cond (not b) (z ∷ without_outcome y.number zs) (without_outcome y.number zs))) (ne_eqb z.number y.number k.0) in
          let less : length (without_outcome y.number zs) < length zs = fewer zs k.1 in
          omega (arith, kept, less))
          (found_cases z zs y.number y h)
