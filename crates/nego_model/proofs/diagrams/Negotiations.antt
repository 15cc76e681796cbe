-- Laws of the negotiation that a diagram is.
use Rattle.std.proofs.Common.{◌≡◌, ⊎_elim, ℕ, zero, suc, ◌+◌, ◌<◌, ◌≤◌, Bool, true, false, ◌==◌, cond, List, [], ◌∷◌, length, slice_get, slice_index_or, Some, IsTrue, refl, sym, subst, ap, ◌∙◌, arith, eqb-true, eq-eqb, ltb-true, lt-ltb}
use Rattle.std.proofs.lemmas.Option.{none-some, same_Some}
use Rattle.std.specs.Option.{option_map_or}
use Rattle.nego_base.specs.Members.{is_in, RisesFrom, IsRising}
use Rattle.nego_model.specs.Negotiation.{IsOutcome}
use Rattle.nego_model.specs.Diagram.{PlainAtom, PlainOutcome, PlainDiagram, negotiation_of, parties_of, outcomes_from, nexts_of, relation_of}
use Rattle.nego_base.proofs.Members.{is_in-head, is_in-tail, is_in-cases, is_in_none, is_in-range_zero, rises-range, rises_more}

-- Outcome o of a list of outcomes is this one, of this atom.
pub record OutcomeAt (outcomes : List PlainOutcome) (n o : ℕ) : Type 0 where
  pub outcome : PlainOutcome
  pub at : slice_get outcomes o ≡ Some outcome
  pub of_atom : outcome.atom ≡ n

-- the numbers of an atom's outcomes are not below the first number
pub outcomes_from-above : (k : ℕ) (outcomes : List PlainOutcome) (n o : ℕ) → IsTrue (is_in o (outcomes_from k outcomes n)) → k ≤ o
outcomes_from-above k [] n o h = absurd (is_in_none o [] refl h)
outcomes_from-above k (outcome ∷ outcomes) n o h = go (outcome.atom == n) h (outcomes_from-above (k + 1) outcomes n o)
  where
    go : (b : Bool) → IsTrue (is_in o (cond b (k ∷ outcomes_from (k + 1) outcomes n) (outcomes_from (k + 1) outcomes n))) → (IsTrue (is_in o (outcomes_from (k + 1) outcomes n)) → k + 1 ≤ o) → k ≤ o
    go true q more = ⊎_elim (λ e. omega (arith, e)) (λ m. let l : k + 1 ≤ o = more m in omega (arith, l)) (is_in-cases o k (outcomes_from (k + 1) outcomes n) q)
    go false q more = let l : k + 1 ≤ o = more q in omega (arith, l)

-- the outcome of a number among an atom's outcomes, which are numbered from k on
pub outcomes_from-at : (k : ℕ) (outcomes : List PlainOutcome) (n o : ℕ) → IsTrue (is_in (k + o) (outcomes_from k outcomes n)) → OutcomeAt outcomes n o
outcomes_from-at k [] n o h = absurd (is_in_none (k + o) [] refl h)
outcomes_from-at k (outcome ∷ outcomes) n zero h = go (outcome.atom == n) refl h
  where
    go : (b : Bool) → (outcome.atom == n) ≡ b → IsTrue (is_in (k + 0) (cond b (k ∷ outcomes_from (k + 1) outcomes n) (outcomes_from (k + 1) outcomes n))) → OutcomeAt (outcome ∷ outcomes) n 0
    go true e q = record { outcome = outcome; at = refl; of_atom = eqb-true outcome.atom n e }
    go false e q = absurd (let l : k + 1 ≤ k + 0 = outcomes_from-above (k + 1) outcomes n (k + 0) q in let no_more : ⊥ = omega (arith, l) in no_more)
outcomes_from-at k (outcome ∷ outcomes) n (suc o) h = go (outcome.atom == n) h (λ q. outcomes_from-at (k + 1) outcomes n o q)
  where
    later : OutcomeAt outcomes n o → OutcomeAt (outcome ∷ outcomes) n (suc o)
    later r = record { outcome = r.outcome; at = r.at; of_atom = r.of_atom }

    same : k + suc o ≡ k + 1 + o
    same = omega arith

    go : (b : Bool) → IsTrue (is_in (k + suc o) (cond b (k ∷ outcomes_from (k + 1) outcomes n) (outcomes_from (k + 1) outcomes n))) →
        (IsTrue (is_in (k + 1 + o) (outcomes_from (k + 1) outcomes n)) → OutcomeAt outcomes n o) → OutcomeAt (outcome ∷ outcomes) n (suc o)
    go true q more =
        ⊎_elim (λ e. absurd (let no_more : ⊥ = omega (arith, e) in no_more)) (λ m. later (more (subst (λ x. IsTrue (is_in x (outcomes_from (k + 1) outcomes n))) same m)))
        (is_in-cases (k + suc o) k (outcomes_from (k + 1) outcomes n) q)
    go false q more = later (more (subst (λ x. IsTrue (is_in x (outcomes_from (k + 1) outcomes n))) same q))

-- an outcome of an atom is among the atom's outcomes
pub in_outcomes_from : (k : ℕ) (outcomes : List PlainOutcome) (n o : ℕ) → OutcomeAt outcomes n o → IsTrue (is_in (k + o) (outcomes_from k outcomes n))
in_outcomes_from k [] n o r = absurd (none-some r.outcome r.at)
in_outcomes_from k (outcome ∷ outcomes) n zero r =
    subst (λ b. IsTrue (is_in (k + 0) (cond b (k ∷ outcomes_from (k + 1) outcomes n) (outcomes_from (k + 1) outcomes n)))) (sym here)
    (let e : k ≡ k + 0 = omega arith in subst (λ x. IsTrue (is_in x (k ∷ outcomes_from (k + 1) outcomes n))) e (is_in-head k (outcomes_from (k + 1) outcomes n)))
  where
    here : (outcome.atom == n) ≡ true
    here = eq-eqb outcome.atom n (ap (λ x. x.atom) (same_Some outcome r.outcome r.at) ∙ r.of_atom)
in_outcomes_from k (outcome ∷ outcomes) n (suc o) r = go (outcome.atom == n) (in_outcomes_from (k + 1) outcomes n o (record { outcome = r.outcome; at = r.at; of_atom = r.of_atom }))
  where
    same : k + 1 + o ≡ k + suc o
    same = omega arith

    go : (b : Bool) → IsTrue (is_in (k + 1 + o) (outcomes_from (k + 1) outcomes n)) → IsTrue (is_in (k + suc o) (cond b (k ∷ outcomes_from (k + 1) outcomes n) (outcomes_from (k + 1) outcomes n)))
    go true m = is_in-tail (k + suc o) k (outcomes_from (k + 1) outcomes n) (subst (λ x. IsTrue (is_in x (outcomes_from (k + 1) outcomes n))) same m)
    go false m = subst (λ x. IsTrue (is_in x (outcomes_from (k + 1) outcomes n))) same m

-- an atom's outcomes rise from the first number on
pub rises-outcomes_from : (k : ℕ) (outcomes : List PlainOutcome) (n : ℕ) → RisesFrom k (outcomes_from k outcomes n)
rises-outcomes_from k [] n = tt
rises-outcomes_from k (outcome ∷ outcomes) n = go (outcome.atom == n) (rises-outcomes_from (k + 1) outcomes n)
  where
    go : (b : Bool) → RisesFrom (k + 1) (outcomes_from (k + 1) outcomes n) → RisesFrom k (cond b (k ∷ outcomes_from (k + 1) outcomes n) (outcomes_from (k + 1) outcomes n))
    go true h = (omega arith, h)
    go false h = rises_more k (k + 1) (outcomes_from (k + 1) outcomes n) (omega arith) h

module _ (diagram : PlainDiagram) where
  -- atoms are the numbers below their count
  pub atom-below : (n : ℕ) → IsTrue (is_in n (negotiation_of diagram).atoms) → n < length diagram.atoms
  atom-below n h = ltb-true n (length diagram.atoms) (sym (is_in-range_zero n (length diagram.atoms)) ∙ h)

  -- a number below the count of atoms is an atom
  pub atom_from_below : (n : ℕ) → n < length diagram.atoms → IsTrue (is_in n (negotiation_of diagram).atoms)
  atom_from_below n h = is_in-range_zero n (length diagram.atoms) ∙ lt-ltb n (length diagram.atoms) h

  -- the outcome of an atom
  pub outcome_at : (n o : ℕ) → IsOutcome (negotiation_of diagram) n o → OutcomeAt diagram.outcomes n o
  outcome_at n o h =
      outcomes_from-at 0 diagram.outcomes n o (let e : o ≡ 0 + o = omega arith in subst (λ x. IsTrue (is_in x (outcomes_from 0 diagram.outcomes n))) e h.1)

  -- an outcome of this atom is one of its outcomes
  pub IsOutcome_from_at : (n o : ℕ) → n < length diagram.atoms → OutcomeAt diagram.outcomes n o → IsOutcome (negotiation_of diagram) n o
  IsOutcome_from_at n o h r =
      (atom_from_below n h, let e : 0 + o ≡ o = omega arith in subst (λ x. IsTrue (is_in x (outcomes_from 0 diagram.outcomes n))) e (in_outcomes_from 0 diagram.outcomes n o r))

  -- an outcome is of one atom
  pub same_atom : (m n o : ℕ) → IsOutcome (negotiation_of diagram) m o → IsOutcome (negotiation_of diagram) n o → m ≡ n
  same_atom m n o h k =
      let p = outcome_at m o h in
      let q = outcome_at n o k in
      sym p.of_atom ∙ (ap (λ x. x.atom) (same_Some p.outcome q.outcome (sym p.at ∙ q.at)) ∙ q.of_atom)

  -- atoms rise
  pub rising-atoms : IsRising (negotiation_of diagram).atoms
  rising-atoms = rises-range 0 (length diagram.atoms)

  -- an atom's outcomes rise
  pub rising-outcomes : (n : ℕ) → IsRising ((negotiation_of diagram).outcomes n)
  rising-outcomes n = rises-outcomes_from 0 diagram.outcomes n

  -- what an outcome relates stands in its table
  pub relation_of-at : (o d e : ℕ) (outcome : PlainOutcome) → slice_get diagram.outcomes o ≡ Some outcome → relation_of diagram o d e ≡ is_in e (slice_index_or outcome.table d [])
  relation_of-at o d e outcome h = ap (λ x. option_map_or (λ (y : PlainOutcome). is_in e (slice_index_or y.table d [])) x false) h

  -- the next atoms after an outcome
  pub nexts_of-at : (o a : ℕ) (outcome : PlainOutcome) → slice_get diagram.outcomes o ≡ Some outcome → nexts_of diagram o a ≡ slice_index_or outcome.nexts a []
  nexts_of-at o a outcome h = ap (λ x. option_map_or (λ (y : PlainOutcome). slice_index_or y.nexts a []) x []) h

  -- the parties of an atom
  pub parties_of-at : (n : ℕ) (atom : PlainAtom) → slice_get diagram.atoms n ≡ Some atom → parties_of diagram n ≡ atom.parties
  parties_of-at n atom h = ap (λ x. option_map_or (λ (y : PlainAtom). y.parties) x []) h
