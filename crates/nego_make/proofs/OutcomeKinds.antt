-- What the atoms have, and their outcomes, one by one.
use Rattle.std.proofs.Common.{◌≡◌, ◌≢◌, ◌∙◌, ℕ, zero, suc, ◌+◌, ◌<◌, ◌≤◌, ◌==◌, true, cond, List, [], ◌∷◌, length, map, slice_index, codes, sym, subst, refl, arith, ltb-true, eqb-true, eq-eqb}
use Rattle.std.proofs.lemmas.Bool.{cond_both, false≢true}
use Rattle.std.proofs.lemmas.List.{length-map, length-append}
use Rattle.std.proofs.lemmas.List.Elements.{All-nil, All-cons, All-append, All-map}
use Rattle.std.specs.List.{All, range_with_len}
use Rattle.nego_base.specs.Members.{is_in}
use Rattle.nego_base.proofs.Members.{All-members, is_in-range_zero}
use Rattle.nego_reader.specs.Content.{NumberTerm, PlusTerm, SetContent, CaseContent, NextContent, OutContent, AtomContent}
use Rattle.nego_shape.specs.Naming.{PlacedOut, outs_from, all_outs}
use Rattle.nego_shape.specs.Made.{placed_at}
use Rattle.nego_make.specs.Generated.{agent_name, parties, next_lines, outcome, assign, two_ways, endings, outcomes, atom, generated}
use Rattle.nego_make.proofs.Names.{parties_have}

pub one : {X : Type 0} (P : X → Type 0) (x : X) → P x → All P (x ∷ [])
one P x h = All-cons P x [] h (All-nil P)

pub two : {X : Type 0} (P : X → Type 0) (x y : X) → P x → P y → All P (x ∷ y ∷ [])
two P x y h k = All-cons P x (y ∷ []) h (one P y k)

-- both outcomes of an atom between the first and the last
pub both_ways : (P : OutContent → Type 0) (p q : ℕ) (nexts : List NextContent) → P (outcome (codes "x") (assign p (PlusTerm (agent_name p) 1)) nexts) → P (outcome (codes "y") (assign p (PlusTerm (agent_name q) 0)) nexts) →
    All P (two_ways p q nexts)
both_ways P p q nexts h k = two P (outcome (codes "x") (assign p (PlusTerm (agent_name p) 1)) nexts) (outcome (codes "y") (assign p (PlusTerm (agent_name q) 0)) nexts) h k

-- both outcomes of the last atom
pub both_endings : (P : OutContent → Type 0) → P (outcome (codes "good") [] []) → P (outcome (codes "bad") (assign 0 (NumberTerm 0)) []) → All P endings
both_endings P h k = two P (outcome (codes "good") [] []) (outcome (codes "bad") (assign 0 (NumberTerm 0)) []) h k

-- what the atoms of all numbers have, all atoms have
pub each_atom : (P : AtomContent → Type 0) (n : ℕ) → ((i : ℕ) → i < n → P (atom n i)) → All P (generated n).atoms
each_atom P n h = All-map P (atom n) (range_with_len 0 n) (All-members (λ i. P (atom n i)) (range_with_len 0 n) (λ i m. h i (ltb-true i n (sym (is_in-range_zero i n) ∙ m))))

-- and the same of their outcomes
pub each_placed : (P : PlacedOut → Type 0) (n : ℕ) → ((i : ℕ) → i < n → All (λ out. P (placed_at i out)) (outcomes n i)) → All P (all_outs (generated n))
each_placed P n h = go 0 n (λ i low high. h i (omega (arith, high)))
  where
    go : (k m : ℕ) → ((i : ℕ) → k ≤ i → i < k + m → All (λ out. P (placed_at i out)) (outcomes n i)) → All P (outs_from k (map (atom n) (range_with_len k m)))
    go k zero each = All-nil P
    go k (suc m) each =
        All-append P (map (placed_at k) (outcomes n k)) (outs_from (k + 1) (map (atom n) (range_with_len (k + 1) m)))
        (All-map P (placed_at k) (outcomes n k) (each k (omega arith) (omega arith)))
        (go (k + 1) m (λ i low high. each i (omega (arith, low)) (omega (arith, high))))

-- what the lists of outcomes of the first atom, of the last and of those between have, that of each atom has
pub lists_have : (P : List OutContent → Type 0) (n i : ℕ) → (i ≡ 0 → P (outcome (codes "go") [] (next_lines n 0) ∷ [])) → (i ≢ 0 → i + 1 ≡ n → P endings) →
    (i ≢ 0 → i + 1 ≢ n → P (two_ways (slice_index (parties n i) 0) (slice_index (parties n i) 1) (next_lines n i))) → P (outcomes n i)
lists_have P n i begin end way =
    cond_both (i == 0) (outcome (codes "go") [] (next_lines n 0) ∷ []) (cond (i + 1 == n) endings between) P
    (λ t. begin (eqb-true i 0 t))
    (λ f. cond_both (i + 1 == n) endings between P (λ t. end (λ e. false≢true (sym f ∙ eq-eqb i 0 e)) (eqb-true (i + 1) n t)) (λ g. way (λ e. false≢true (sym f ∙ eq-eqb i 0 e)) (λ e. false≢true (sym g ∙ eq-eqb (i + 1) n e))))
  where
    between : List OutContent
    between = two_ways (slice_index (parties n i) 0) (slice_index (parties n i) 1) (next_lines n i)

-- what no next lines have at the last atom, and an atom's next lines at the others, those of each outcome have
pub nexts_have : (Q : List NextContent → Type 0) (n i : ℕ) → 2 ≤ n → (i + 1 ≡ n → Q []) → (i + 1 ≢ n → Q (next_lines n i)) → All (λ out. Q out.nexts) (outcomes n i)
nexts_have Q n i some end more =
    lists_have (All P) n i
    (λ first. one P (outcome (codes "go") [] (next_lines n 0)) (subst (λ k. Q (next_lines n k)) first (more (λ e. omega (arith, some, first, e)))))
    (λ _ last. both_endings P (end last) (end last))
    (λ _ other. both_ways P (slice_index (parties n i) 0) (slice_index (parties n i) 1) (next_lines n i) (more other) (more other))
  where
    P : OutContent → Type 0
    P out = Q out.nexts

-- a case that demands nothing
abbrev pub plain : List SetContent → CaseContent
plain sets = record { tests = []; sets = sets }

-- what a case has that assigns nothing, that assigns 0 at the last atom, and that assigns a party the value of a party and
-- some more, each case has
pub cases_have : (Q : CaseContent → Type 0) (n i : ℕ) → Q (plain []) → (i + 1 ≡ n → Q (plain (assign 0 (NumberTerm 0)))) →
    ((p q k : ℕ) → is_in p (parties n i) ≡ true → is_in q (parties n i) ≡ true → Q (plain (assign p (PlusTerm (agent_name q) k)))) → All (λ out. All Q out.cases) (outcomes n i)
cases_have Q n i nothing zero_last sum =
    lists_have (All P) n i
    (λ _. one P (outcome (codes "go") [] (next_lines n 0)) (one Q (plain []) nothing))
    (λ _ last. both_endings P (one Q (plain []) nothing) (one Q (plain (assign 0 (NumberTerm 0))) (zero_last last)))
    (λ _ _. let p = slice_index (parties n i) 0 in let q = slice_index (parties n i) 1 in
    both_ways P p q (next_lines n i) (one Q (plain (assign p (PlusTerm (agent_name p) 1))) (sum p p 1 first first)) (one Q (plain (assign p (PlusTerm (agent_name q) 0))) (sum p q 0 first second)))
  where
    P : OutContent → Type 0
    P out = All Q out.cases

    first : is_in (slice_index (parties n i) 0) (parties n i) ≡ true
    first = parties_have (λ xs. is_in (slice_index xs 0) xs ≡ true) refl refl refl n i

    second : is_in (slice_index (parties n i) 1) (parties n i) ≡ true
    second = parties_have (λ xs. is_in (slice_index xs 1) xs ≡ true) refl refl refl n i

-- there are two outcomes an atom at most
pub outcomes_few : (n : ℕ) → length (all_outs (generated n)) ≤ n + n
outcomes_few n = go 0 n
  where
    go : (k m : ℕ) → length (outs_from k (map (atom n) (range_with_len k m))) ≤ m + m
    go k zero = omega arith
    go k (suc m) =
        let own = map (placed_at k) (outcomes n k) in
        let rest = outs_from (k + 1) (map (atom n) (range_with_len (k + 1) m)) in
        let here : length (outcomes n k) ≤ 2 = lists_have (λ outs. length outs ≤ 2) n k (λ _. omega arith) (λ _ _. omega arith) (λ _ _. omega arith) in
        omega (arith, here, length-append own rest, length-map (outcomes n k) (placed_at k), go (k + 1) m)
