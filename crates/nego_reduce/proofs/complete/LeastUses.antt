-- Searches for the next use: a work where no use is the next one allows no merge, no shortcut of the order, and no closing.
use Rattle.std.proofs.Common.{◌≡◌, ◌⊎◌, inl, inr, ⊎_elim, ℕ, zero, suc, ◌+◌, ◌<◌, Bool, false, ◌&&◌, ◌==◌, not, List, [], ◌∷◌, length, map, Some, IsTrue, refl, sym, subst, arith}
use Rattle.std.proofs.lemmas.Bool.{and_parts, cases_Bool, cases_lt, false_from_ne_true}
use Rattle.std.specs.Option.{option_map_or}
use Rattle.nego_base.specs.Members.{is_in}
use Rattle.nego_base.proofs.Members.{is_in_none, is_in-cases}
use Rattle.nego_expr.specs.Work.{WorkOutcome, PlainWork, IsWork, outcome_at, outcomes_at}
use Rattle.nego_expr.specs.Use.{Merge, Shortcut, Close, merges, enters, allows}
use Rattle.nego_expr.proofs.EditCalls.{allowed_at, found_itself}
use Rattle.nego_expr.proofs.WorkEdits.{All-found, found-number}
use Rattle.nego_shortcut.proofs.ShortWorks.{entry_from}
use Rattle.nego_reduce.specs.Order.{IsPairBelow, IsLeastMerge, IsLeastShortcut, HasNoMerge, HasNoIteration, HasNoShortcut, HasNoNextUse, has_passed}

-- ---- searches

-- each number is of the one kind or the other: there is a least one of the first kind, or all below a bound are of the second
first_below : (P Q : ℕ → Type 0) → ((n : ℕ) → P n ⊎ Q n) → (bound : ℕ) → ((n : ℕ) × P n × ((m : ℕ) → m < n → Q m)) ⊎ ((m : ℕ) → m < bound → Q m)
first_below P Q decide zero = inr (λ m l. absurd (omega (arith, l)))
first_below P Q decide (suc bound) = ⊎_elim
    (λ found. inl found)
    (λ none. ⊎_elim
    (λ p. inl (bound, p, none))
    (λ q. inr (λ m l. ⊎_elim (λ less. none m less) (λ more. let e : bound ≡ m = omega (arith, l, more) in subst Q e q) (cases_lt m bound)))
    (decide bound))
    (first_below P Q decide bound)

-- of pairs of which none past the bounds passes a test there is a least one that passes, or none passes
least_pair_or_none : (test : ℕ → ℕ → Bool) (bound bound' : ℕ) → ((o n : ℕ) → IsTrue (test o n) → (o < bound) × (n < bound')) →
    ((o n : ℕ) × IsTrue (test o n) × ((p m : ℕ) → IsPairBelow p m o n → test p m ≡ false)) ⊎ ((o n : ℕ) → test o n ≡ false)
least_pair_or_none test bound bound' within = ⊎_elim
    (λ k. inl (k.0, k.1.0, k.1.1, λ p m below. ⊎_elim (λ l. k.2 p l m) (λ e. subst (λ q. test q m ≡ false) (sym e.0) (k.1.2 m e.1)) below))
    (λ none. inr (λ o n. ⊎_elim (λ l. none o l n) (λ past. false_from_ne_true (test o n) (λ h. let l : o < bound = (within o n h).0 in let no_more : ⊥ = omega (arith, l, past) in no_more)) (cases_lt o bound)))
    (first_below Some_n None_n at bound)
  where
    Some_n : ℕ → Type 0
    Some_n o = (n : ℕ) × IsTrue (test o n) × ((m : ℕ) → m < n → test o m ≡ false)

    None_n : ℕ → Type 0
    None_n o = (n : ℕ) → test o n ≡ false

    at : (o : ℕ) → Some_n o ⊎ None_n o
    at o = ⊎_elim
        (λ k. inl k)
        (λ none. inr (λ n. ⊎_elim (λ l. none n l) (λ past. false_from_ne_true (test o n) (λ h. let l : n < bound' = (within o n h).1 in let no_more : ⊥ = omega (arith, l, past) in no_more)) (cases_lt n bound')))
        (first_below (λ n. IsTrue (test o n)) (λ n. test o n ≡ false) (λ n. cases_Bool (test o n)) bound')

-- the members of a list are below some number
bounded : (xs : List ℕ) → (bound : ℕ) × ((x : ℕ) → IsTrue (is_in x xs) → x < bound)
bounded [] = (0, λ x h. absurd (is_in_none x [] refl h))
bounded (y ∷ ys) =
    let k = bounded ys in
    (k.0 + y + 1, λ x h. ⊎_elim (λ e. omega (arith, e)) (λ m. let l : x < k.0 = k.1 x m in omega (arith, l)) (is_in-cases x y ys h))

-- ---- the uses of a work

module _ (work : PlainWork) (ok : IsWork work) where
  -- what is found has a number below the least that was never used
  number_below : (o : ℕ) (x : WorkOutcome) → outcome_at work o ≡ Some x → o < work.numbers
  number_below o x h = subst (λ p. p < work.numbers) (found-number work.outcomes o x h) (All-found (λ z. z.number < work.numbers) work.outcomes o x ok.numbers_used h)

  -- there is a least merge, or none
  pub least_merge : ((o1 o2 : ℕ) × IsLeastMerge work o1 o2) ⊎ HasNoMerge work
  least_merge = ⊎_elim
      (λ k. inl (k.0, k.1, record { allowed = k.2; least = k.3 }))
      (λ none. inr none)
      (least_pair_or_none (λ o1 o2. allows work (Merge o1 o2)) work.numbers work.numbers within)
    where
      within : (o1 o2 : ℕ) → IsTrue (allows work (Merge o1 o2)) → (o1 < work.numbers) × (o2 < work.numbers)
      within o1 o2 allowed =
          let one = allowed_at (λ z. option_map_or (merges work z) (outcome_at work o2) false) (outcome_at work o1) allowed in
          let two = allowed_at (merges work one.0) (outcome_at work o2) one.2 in
          (number_below o1 one.0 one.1, number_below o2 two.0 two.1)

  -- of shortcuts that pass a further test there is a least one, or there is none
  least_shortcut_with : (test : ℕ → ℕ → Bool) →
      ((o n : ℕ) × IsTrue (allows work (Shortcut o n) && test o n) × ((p m : ℕ) → IsPairBelow p m o n → (allows work (Shortcut p m) && test p m) ≡ false)) ⊎ ((o n : ℕ) → (allows work (Shortcut o n) && test o n) ≡ false)
  least_shortcut_with test = least_pair_or_none (λ o n. allows work (Shortcut o n) && test o n) work.numbers atoms.0 within
    where
      atoms : (bound : ℕ) × ((n : ℕ) → IsTrue (is_in n (map (λ atom. atom.number) work.atoms)) → n < bound)
      atoms = bounded (map (λ atom. atom.number) work.atoms)

      within : (o n : ℕ) → IsTrue (allows work (Shortcut o n) && test o n) → (o < work.numbers) × (n < atoms.0)
      within o n h =
          let k = allowed_at (λ x. enters work x n) (outcome_at work o) (and_parts (allows work (Shortcut o n)) (test o n) h).0 in
          (number_below o k.0 k.1, atoms.1 n (entry_from work k.0 n (found_itself work o k.0 k.1) k.2).there)

  -- there is a least shortcut that the order takes, or none
  pub least_shortcut : ((o n : ℕ) × IsLeastShortcut work o n) ⊎ HasNoShortcut work
  least_shortcut = ⊎_elim
      (λ k. inl (k.0, k.1, record { taken = k.2; least = k.3 }))
      (λ none. inr none)
      (least_shortcut_with (λ o n. (length (outcomes_at work n) == 1) && not (has_passed work o n)))

  -- there is an allowed shortcut into an atom of one outcome, or none
  pub some_shortcut : ((o n : ℕ) × IsTrue (allows work (Shortcut o n) && (length (outcomes_at work n) == 1))) ⊎ ((o n : ℕ) → (allows work (Shortcut o n) && (length (outcomes_at work n) == 1)) ≡ false)
  some_shortcut = ⊎_elim (λ k. inl (k.0, k.1, k.2)) (λ none. inr none) (least_shortcut_with (λ o n. length (outcomes_at work n) == 1))

  -- where no use is the next one, and there is no iteration, no merge is allowed, no shortcut is taken, and closing isn't allowed
  pub none_left : HasNoIteration work → HasNoNextUse work → HasNoMerge work × HasNoShortcut work × (allows work Close ≡ false)
  none_left still none = (no_merge, no_shortcut, false_from_ne_true (allows work Close) (λ h. none Close (no_merge, still, no_shortcut, h)))
    where
      no_merge : HasNoMerge work
      no_merge = ⊎_elim (λ k. absurd (none (Merge k.0 k.1) k.2)) (λ h. h) least_merge

      no_shortcut : HasNoShortcut work
      no_shortcut = ⊎_elim (λ k. absurd (none (Shortcut k.0 k.1) (no_merge, still, k.2))) (λ h. h) least_shortcut
