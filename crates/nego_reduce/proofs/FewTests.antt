-- How many guards are tested at most in all rounds, where each round tests few.
use Rattle.std.proofs.Common.{◌≡◌, ◌≢◌, ℕ, ◌+◌, ◌*◌, ◌≤◌, ◌==◌, min, zero, suc, IsTrue, List, [], ◌∷◌, length, refl, sym, subst, arith}
use Rattle.std.specs.List.{range_with_len}
use Rattle.std.proofs.lemmas.Bool.{cond_both, eqb-true}
use Rattle.std.proofs.Math.Nat.{mul-le-mul_right, sub-add-min_cancel}
use Rattle.nego_base.specs.Members.{is_in}
use Rattle.nego_model.specs.Negotiation.{IsNegotiation}
use Rattle.nego_model.specs.Diagram.{PlainAtom, PlainOutcome, PlainDiagram, negotiation_of, outcomes_from}

-- the atom of a diagram's one outcome is each atom that has an outcome
only_atom : (x : PlainOutcome) (n : ℕ) → outcomes_from 0 (x ∷ []) n ≢ [] → x.atom ≡ n
only_atom x n some = cond_both (x.atom == n) (0 ∷ []) [] (λ os. os ≢ [] → x.atom ≡ n) (λ e h. eqb-true x.atom n e) (λ e h. absurd (h (λ _. []))) some

one_of_one : (atoms : List PlainAtom) (outcomes : List PlainOutcome) → length outcomes ≡ 1 →
    ((n : ℕ) → IsTrue (is_in n (range_with_len 0 (length atoms))) → outcomes_from 0 outcomes n ≢ []) → length atoms ≤ 1
one_of_one [] outcomes one some = omega arith
one_of_one (a ∷ []) outcomes one some = omega arith
one_of_one (a ∷ b ∷ atoms) [] one some = absurd (let no : ⊥ = omega (arith, one) in no)
one_of_one (a ∷ b ∷ atoms) (x ∷ y ∷ outcomes) one some = absurd (let no : ⊥ = omega (arith, one) in no)
one_of_one (a ∷ b ∷ atoms) (x ∷ []) one some =
    let first = only_atom x 0 (some 0 refl) in
    let second = only_atom x 1 (some 1 refl) in
    absurd (let no : ⊥ = omega (arith, first, second) in no)

-- a diagram of one outcome has one atom
pub one_atom : (diagram : PlainDiagram) → IsNegotiation (negotiation_of diagram) → length diagram.outcomes ≡ 1 → length diagram.atoms ≤ 1
one_atom diagram form one = one_of_one diagram.atoms diagram.outcomes one form.some_outcome

-- the lesser of two numbers
min_first : (a b : ℕ) → a ≤ b → min a b ≡ a
min_first a b h = let cancel = sub-add-min_cancel a b in omega (arith, h, cancel)

-- All rounds test few guards, where there are l outcomes, k atoms and n uses.
pub rounds_fit : (l k n : ℕ) → 1 ≤ l → (l ≡ 1 → n ≤ 1) → n ≤ l * k + l + 1 → (n + 1) * (17 * l + 3) ≤ (l * k + l + 2) * min (17 * l + 3) (l * l + l + 16 * l)
rounds_fit zero k n some one few = absurd (let no : ⊥ = omega (arith, some) in no)
rounds_fit (suc zero) k n some one few = let two = one refl in omega (arith, two)
rounds_fit (suc (suc m)) k n some one few =
    let l = suc (suc m) in
    let square : 2 * l ≤ l * l = mul-le-mul_right l (let h : 2 ≤ l = omega arith in h) in
    let less : 17 * l + 3 ≤ l * l + l + 16 * l = omega (arith, square) in
    let rounds : n + 1 ≤ l * k + l + 2 = omega (arith, few) in
    subst (λ each. (n + 1) * (17 * l + 3) ≤ (l * k + l + 2) * each) (sym (min_first (17 * l + 3) (l * l + l + 16 * l) less)) (mul-le-mul_right (17 * l + 3) rounds)
