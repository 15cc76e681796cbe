-- The outcomes of a content, atom by atom.
use Rattle.std.proofs.Common.{◌≡◌, ◌≢◌, ⊎_elim, ℕ, zero, suc, ◌+◌, ◌<◌, ◌≤◌, List, [], ◌∷◌, ◌++◌, length, map, get_or, Some, slice_get, refl, sym, subst, ap, ◌∙◌, arith, append-nil}
use Rattle.std.proofs.lemmas.Bool.{cases_lt}
use Rattle.std.proofs.lemmas.Option.{same_Some, none-some}
use Rattle.std.proofs.lemmas.List.{length-map, map-append}
use Rattle.std.proofs.lemmas.List.Elements.{All-nil, All-append, All-map, All-head, All-tail, All-weaker}
use Rattle.std.specs.List.{All, AllPairs, range_with_len}
use Rattle.std.specs.List.Sorted.{IsNonDecreasingBy}
use Rattle.nego_base.proofs.PairLaws.{AllPairs-append, AllPairs-map, AllPairs-nil, AllPairs-unmap}
use Rattle.nego_model.specs.declared.parts.AtomPart.{AtomPart}
use Rattle.nego_model.specs.Diagram.{PlainOutcome, outcomes_from}
use Rattle.nego_model.proofs.diagrams.OutcomeNumbers.{outcomes_from-append, outcomes_from-all, outcomes_from-none}
use Rattle.nego_reader.specs.Content.{Content, AtomContent, OutContent}
use Rattle.nego_shape.specs.Naming.{PlacedOut, outs_from, outcome_in}
use Rattle.nego_shape.specs.Made.{placed_at, part_in, parts_from}

-- a range of some length has a number
some_range : {X : Type 0} (k : ℕ) (xs : List X) → xs ≢ [] → range_with_len k (length xs) ≢ []
some_range k [] some = absurd (some refl)
some_range k (x ∷ xs) some = λ e. cc

-- numbers of which no later one is less are in order
pub nondecreasing : {X : Type 0} (number : X → ℕ) (xs : List X) → AllPairs (λ x y. number x ≤ number y) xs → IsNonDecreasingBy number xs
nondecreasing number xs h i j d before within = ⊎_elim (λ e. h i j d e within) (λ e. let same : i ≡ j = omega (arith, before, e) in subst (λ k. number (get_or xs i d) ≤ number (get_or xs k d)) same (omega arith)) (cases_lt i j)

-- what each outcome of each atom has, all have
pub All-outs : (P : OutContent → Type 0) (n : ℕ) (atoms : List AtomContent) → All (λ atom. All P atom.outs) atoms → All (λ placed. P placed.out) (outs_from n atoms)
All-outs P n [] h = All-nil (λ (placed : PlacedOut). P placed.out)
All-outs P n (atom ∷ atoms) h =
    All-append (λ (placed : PlacedOut). P placed.out) (map (placed_at n) atom.outs) (outs_from (n + 1) atoms)
    (All-map (λ (placed : PlacedOut). P placed.out) (placed_at n) atom.outs (All-head (λ (x : AtomContent). All P x.outs) atom atoms h))
    (All-outs P (n + 1) atoms (All-tail (λ (x : AtomContent). All P x.outs) atom atoms h))

-- the outcomes of an atom have its number
pub outs-own : (n : ℕ) (outs : List OutContent) → All (λ placed. placed.atom ≡ n) (map (placed_at n) outs)
outs-own n outs = All-map (λ (placed : PlacedOut). placed.atom ≡ n) (placed_at n) outs (λ k d h. refl)

-- the outcomes of atoms from n on have their numbers
pub outs-within : (n : ℕ) (atoms : List AtomContent) → All (λ placed. (n ≤ placed.atom) × (placed.atom < n + length atoms)) (outs_from n atoms)
outs-within n [] = All-nil (λ (placed : PlacedOut). (n ≤ placed.atom) × (placed.atom < n + 0))
outs-within n (atom ∷ atoms) =
    All-append Within (map (placed_at n) atom.outs) (outs_from (n + 1) atoms)
    (All-map Within (placed_at n) atom.outs (λ k d h. (omega arith, omega arith)))
    (All-weaker (λ (placed : PlacedOut). (n + 1 ≤ placed.atom) × (placed.atom < n + 1 + length atoms)) Within (λ x p. (omega (arith, p.0), omega (arith, p.1))) (outs_from (n + 1) atoms) (outs-within (n + 1) atoms))
  where
    Within : PlacedOut → Type 0
    Within placed = (n ≤ placed.atom) × (placed.atom < n + length (atom ∷ atoms))

-- outcomes stand in the order of their atoms
pub outs-in_order : (n : ℕ) (atoms : List AtomContent) → AllPairs (λ one two. one.atom ≤ two.atom) (outs_from n atoms)
outs-in_order n [] = AllPairs-nil (λ (one two : PlacedOut). one.atom ≤ two.atom)
outs-in_order n (atom ∷ atoms) =
    AllPairs-append (λ (one two : PlacedOut). one.atom ≤ two.atom) (map (placed_at n) atom.outs) (outs_from (n + 1) atoms)
    (AllPairs-map (λ (one two : PlacedOut). one.atom ≤ two.atom) (placed_at n) atom.outs (λ i j d before within. omega arith))
    (outs-in_order (n + 1) atoms)
    (All-map (λ (one : PlacedOut). All (λ (two : PlacedOut). one.atom ≤ two.atom) (outs_from (n + 1) atoms)) (placed_at n) atom.outs
    (λ k d h. All-weaker (λ (two : PlacedOut). (n + 1 ≤ two.atom) × (two.atom < n + 1 + length atoms)) (λ (two : PlacedOut). n ≤ two.atom) (λ x p. omega (arith, p.0)) (outs_from (n + 1) atoms) (outs-within (n + 1) atoms)))

-- outcomes of one atom have different names
pub outs-differ : (n : ℕ) (atoms : List AtomContent) → All (λ atom. AllPairs (λ one two. one ≢ two) (map (λ out. out.name) atom.outs)) atoms →
    AllPairs (λ one two. one.atom ≡ two.atom → one.out.name ≢ two.out.name) (outs_from n atoms)
outs-differ n [] h = AllPairs-nil (λ (one two : PlacedOut). one.atom ≡ two.atom → one.out.name ≢ two.out.name)
outs-differ n (atom ∷ atoms) h =
    AllPairs-append Differ (map (placed_at n) atom.outs) (outs_from (n + 1) atoms)
    (AllPairs-map Differ (placed_at n) atom.outs (λ i j d before within same. names (All-head Names atom atoms h) i j d before within))
    (outs-differ (n + 1) atoms (All-tail Names atom atoms h))
    (All-map (λ (one : PlacedOut). All (Differ one) (outs_from (n + 1) atoms)) (placed_at n) atom.outs
    (λ k d l. All-weaker (λ (two : PlacedOut). (n + 1 ≤ two.atom) × (two.atom < n + 1 + length atoms)) (Differ (placed_at n (get_or atom.outs k d))) (λ x p e. absurd (let m = p.0 in let no_more : ⊥ = omega (arith, m, e) in no_more))
    (outs_from (n + 1) atoms) (outs-within (n + 1) atoms)))
  where
    Differ : PlacedOut → PlacedOut → Type 0
    Differ one two = one.atom ≡ two.atom → one.out.name ≢ two.out.name

    Names : AtomContent → Type 0
    Names x = AllPairs (λ one two. one ≢ two) (map (λ out. out.name) x.outs)

    names : Names atom → AllPairs (λ one two. one.name ≢ two.name) atom.outs
    names = AllPairs-unmap (λ one two. one ≢ two) (λ out. out.name) atom.outs

-- the outcomes of the diagram
abbrev pub outcomes_of : Content → ℕ → List AtomContent → List PlainOutcome
outcomes_of c n atoms = map (outcome_in c) (outs_from n atoms)

module _ (c : Content) where
  -- those of an atom, and then those of the others
  outcomes-cons : (n : ℕ) (atom : AtomContent) (atoms : List AtomContent) → outcomes_of c n (atom ∷ atoms) ≡ map (outcome_in c) (map (placed_at n) atom.outs) ++ outcomes_of c (n + 1) atoms
  outcomes-cons n atom atoms = map-append (outcome_in c) (map (placed_at n) atom.outs) (outs_from (n + 1) atoms)

  -- no outcome of later atoms is one of an earlier atom
  later-none : (k n m : ℕ) (atoms : List AtomContent) → n < m → outcomes_from k (outcomes_of c m atoms) n ≡ []
  later-none k n m atoms h =
      outcomes_from-none k (outcomes_of c m atoms) n
      (All-map (λ (o : PlainOutcome). o.atom ≢ n) (outcome_in c) (outs_from m atoms)
      (All-weaker (λ (placed : PlacedOut). (m ≤ placed.atom) × (placed.atom < m + length atoms)) (λ (placed : PlacedOut). placed.atom ≢ n)
      (λ x p e. let l = p.0 in let no_more : ⊥ = omega (arith, l, e) in no_more) (outs_from m atoms) (outs-within m atoms)))

  own-count : (n : ℕ) (outs : List OutContent) → length (map (outcome_in c) (map (placed_at n) outs)) ≡ length outs
  own-count n outs = length-map (map (placed_at n) outs) (outcome_in c) ∙ length-map outs (placed_at n)

  own-all : (k n : ℕ) (outs : List OutContent) → outcomes_from k (map (outcome_in c) (map (placed_at n) outs)) n ≡ range_with_len k (length outs)
  own-all k n outs =
      outcomes_from-all k (map (outcome_in c) (map (placed_at n) outs)) n (All-map (λ (o : PlainOutcome). o.atom ≡ n) (outcome_in c) (map (placed_at n) outs) (outs-own n outs))
      ∙ ap (range_with_len k) (own-count n outs)

  own-none : (k n m : ℕ) (outs : List OutContent) → n ≢ m → outcomes_from k (map (outcome_in c) (map (placed_at n) outs)) m ≡ []
  own-none k n m outs other =
      outcomes_from-none k (map (outcome_in c) (map (placed_at n) outs)) m
      (All-map (λ (o : PlainOutcome). o.atom ≢ m) (outcome_in c) (map (placed_at n) outs) (All-map (λ (placed : PlacedOut). placed.atom ≢ m) (placed_at n) outs (λ k d h. other)))

  -- each part has the numbers of its atom's outcomes
  pub numbers : (k n i : ℕ) (atoms : List AtomContent) (part : AtomPart) → slice_get (parts_from c k atoms) i ≡ Some part → range_with_len part.start part.count ≡ outcomes_from k (outcomes_of c n atoms) (n + i)
  numbers k n i [] part at = absurd (none-some part at)
  numbers k n zero (atom ∷ atoms) part at =
      let same : part_in c k atom ≡ part = same_Some (part_in c k atom) part at in
      let own = map (outcome_in c) (map (placed_at n) atom.outs) in
      let here : n + 0 ≡ n = omega arith in
      subst (λ (p : AtomPart). range_with_len p.start p.count ≡ outcomes_from k (outcomes_of c n (atom ∷ atoms)) (n + 0)) same
      (subst (λ m. range_with_len k (length atom.outs) ≡ outcomes_from k (outcomes_of c n (atom ∷ atoms)) m) (sym here)
      (sym (ap (λ os. outcomes_from k os n) (outcomes-cons n atom atoms)
      ∙ (outcomes_from-append k own (outcomes_of c (n + 1) atoms) n
      ∙ (ap (λ os. outcomes_from k own n ++ os) (later-none (k + length own) n (n + 1) atoms (omega arith))
      ∙ (append-nil (outcomes_from k own n) ∙ own-all k n atom.outs))))))
  numbers k n (suc i) (atom ∷ atoms) part at =
      let own = map (outcome_in c) (map (placed_at n) atom.outs) in
      let there : n + 1 + i ≡ n + suc i = omega arith in
      let other : n ≢ n + suc i = λ e. let no_more : ⊥ = omega (arith, e) in no_more in
      let count : k + length own ≡ k + length atom.outs = ap (λ m. k + m) (own-count n atom.outs) in
      numbers (k + length atom.outs) (n + 1) i atoms part at
      ∙ (ap (λ m. outcomes_from (k + length atom.outs) (outcomes_of c (n + 1) atoms) m) there
      ∙ sym (ap (λ os. outcomes_from k os (n + suc i)) (outcomes-cons n atom atoms)
      ∙ (outcomes_from-append k own (outcomes_of c (n + 1) atoms) (n + suc i)
      ∙ (ap (λ os. os ++ outcomes_from (k + length own) (outcomes_of c (n + 1) atoms) (n + suc i)) (own-none k n (n + suc i) atom.outs other)
      ∙ ap (λ m. outcomes_from m (outcomes_of c (n + 1) atoms) (n + suc i)) count))))

  -- each atom with an outcome has a number
  pub some_number : (k n i : ℕ) (atoms : List AtomContent) → All (λ atom. atom.outs ≢ []) atoms → i < length atoms → outcomes_from k (outcomes_of c n atoms) (n + i) ≢ []
  some_number k n i [] h l = absurd (omega (arith, l))
  some_number k n zero (atom ∷ atoms) h l =
      subst (λ os. os ≢ []) (numbers k n 0 (atom ∷ atoms) (part_in c k atom) refl) (some_range k atom.outs (All-head (λ (x : AtomContent). x.outs ≢ []) atom atoms h))
  some_number k n (suc i) (atom ∷ atoms) h l =
      let own = map (outcome_in c) (map (placed_at n) atom.outs) in
      let there : n + 1 + i ≡ n + suc i = omega arith in
      let other : n ≢ n + suc i = λ e. let no_more : ⊥ = omega (arith, e) in no_more in
      let next = some_number (k + length own) (n + 1) i atoms (All-tail (λ (x : AtomContent). x.outs ≢ []) atom atoms h) (omega (arith, l)) in
      let same : outcomes_from k (outcomes_of c n (atom ∷ atoms)) (n + suc i) ≡ outcomes_from (k + length own) (outcomes_of c (n + 1) atoms) (n + suc i) =
      ap (λ os. outcomes_from k os (n + suc i)) (outcomes-cons n atom atoms)
      ∙ (outcomes_from-append k own (outcomes_of c (n + 1) atoms) (n + suc i)
      ∙ ap (λ os. os ++ outcomes_from (k + length own) (outcomes_of c (n + 1) atoms) (n + suc i)) (own-none k n (n + suc i) atom.outs other)) in
      subst (λ os. os ≢ []) (sym same) (subst (λ m. outcomes_from (k + length own) (outcomes_of c (n + 1) atoms) m ≢ []) there next)

-- as many atoms as parts
pub length-parts_from : (c : Content) (k : ℕ) (atoms : List AtomContent) → length (parts_from c k atoms) ≡ length atoms
length-parts_from c k [] = refl
length-parts_from c k (atom ∷ atoms) = ap suc (length-parts_from c (k + length atom.outs) atoms)
