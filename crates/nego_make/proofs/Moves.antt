-- Where the parties of atoms go: to one atom each, which is behind.
use Rattle.std.proofs.Common.{◌≡◌, ◌∙◌, ⊎_elim, ℕ, zero, suc, ◌+◌, ◌-◌, ◌<◌, ◌≤◌, ◌==◌, ◌%◌, true, false, not, List, [], ◌∷◌, length, ap, sym, arith, ltb-true, lt-ltb, le-ltb, ltb-false, eq-eqb, eqb-true}
use Rattle.std.proofs.lemmas.Bool.{and_parts, and_from, cases_lt, cases_Bool, false≢true, cond-true, false_from_ne_true}
use Rattle.std.specs.List.{All, list_any, range_with_len}
use Rattle.nego_base.specs.Members.{is_in}
use Rattle.nego_base.proofs.Members.{is_in-filter, is_in-range, is_in-range_zero, any_from, All-member, All-members}
use Rattle.nego_base.proofs.BoolLaws.{not_so}
use Rattle.nego_make.specs.Generated.{everyone, by_turns, parties, is_next, movers, next_numbers}
use Rattle.nego_make.proofs.Names.{parties_below}
use Rattle.nego_make.proofs.Steps.{none_more}

-- a number between two others
pub in_between : (i j k : ℕ) → i < k → k < j → is_in k (range_with_len (i + 1) (j - (i + 1))) ≡ true
in_between i j k above below =
    is_in-range k (i + 1) (j - (i + 1))
    ∙ and_from (not _) _ (ap not (le-ltb k (i + 1) (omega (arith, above)))) (lt-ltb k (i + 1 + (j - (i + 1))) (omega (arith, above, below)))

pub between : (i j k : ℕ) → i < j → is_in k (range_with_len (i + 1) (j - (i + 1))) ≡ true → (i < k) × (k < j)
between i j k up h =
    let p = and_parts _ _ (sym (is_in-range k (i + 1) (j - (i + 1))) ∙ h) in
    let low : i + 1 ≤ k = ltb-false k (i + 1) (not_so _ p.0) in
    let high : k < i + 1 + (j - (i + 1)) = ltb-true k (i + 1 + (j - (i + 1))) p.1 in
    (omega (arith, low), omega (arith, high, up))

module _ (n i : ℕ) where
  -- the agent is no party of an atom before the next one
  pub no_party : (j a k : ℕ) → is_next n i j a ≡ true → i < k → k < j → is_in a (parties n k) ≡ true → ⊥
  no_party j a k h above below m =
      let none = not_so _ (and_parts (not (list_any (λ p. is_in a (parties n p)) (range_with_len (i + 1) (j - (i + 1))))) (is_in a (parties n j)) h).0 in
      false≢true (sym none ∙ any_from (λ p. is_in a (parties n p)) (range_with_len (i + 1) (j - (i + 1))) k (in_between i j k above below) m)

  pub next_party : (j a : ℕ) → is_next n i j a ≡ true → is_in a (parties n j) ≡ true
  next_party j a h = (and_parts (not (list_any (λ p. is_in a (parties n p)) (range_with_len (i + 1) (j - (i + 1))))) (is_in a (parties n j)) h).1

  -- no agent has two next atoms
  pub one_next : (j k a : ℕ) → i < j → i < k → is_next n i j a ≡ true → is_next n i k a ≡ true → j ≡ k
  one_next j k a up higher h g =
      ⊎_elim (λ l. absurd (no_party k a j g up l (next_party j a h)))
      (λ l. ⊎_elim (λ m. absurd (no_party j a k h higher m (next_party k a g))) (λ m. omega (arith, l, m)) (cases_lt k j))
      (cases_lt j k)

  -- who goes to an atom is a party, of this one and of that
  pub mover_party : (j a : ℕ) → is_in a (movers n i j) ≡ true → (is_next n i j a ≡ true) × (is_in a (parties n i) ≡ true)
  mover_party j a m = and_parts _ _ (sym (is_in-filter (is_next n i j) a (parties n i)) ∙ m)

  pub movers_below : (j : ℕ) → All (λ a. a < 4) (movers n i j)
  movers_below j = All-members (λ a. a < 4) (movers n i j) (λ a m. All-member (λ b. b < 4) a (parties n i) (parties_below n i) (mover_party j a m).1)

  -- a next atom is behind
  pub next_behind : (j : ℕ) → i < n → is_in j (next_numbers n i) ≡ true → (i < j) × (j < n)
  next_behind j h m = between i n j h (and_parts _ _ (sym (is_in-filter (λ k. not (length (movers n i k) == 0)) j (range_with_len (i + 1) (n - (i + 1)))) ∙ m)).1

  -- some party goes to a next atom
  pub some_mover : (j : ℕ) → is_in j (next_numbers n i) ≡ true → 0 < length (movers n i j)
  some_mover j m =
      let f = not_so _ (and_parts _ _ (sym (is_in-filter (λ k. not (length (movers n i k) == 0)) j (range_with_len (i + 1) (n - (i + 1)))) ∙ m)).0 in
      ⊎_elim (λ l. l) (λ l. absurd (false≢true (sym f ∙ eq-eqb (length (movers n i j)) 0 (omega (arith, l))))) (cases_lt 0 (length (movers n i j)))

  -- an atom that some party goes to is a next atom
  pub next_from_mover : (j a : ℕ) → i < j → j < n → is_in a (movers n i j) ≡ true → is_in j (next_numbers n i) ≡ true
  next_from_mover j a up h m =
      is_in-filter (λ k. not (length (movers n i k) == 0)) j (range_with_len (i + 1) (n - (i + 1)))
      ∙ and_from (not (length (movers n i j) == 0)) _ (some (movers n i j) m) (in_between i n j up h)
    where
      some : (xs : List ℕ) → is_in a xs ≡ true → not (length xs == 0) ≡ true
      some [] q = absurd (false≢true q)
      some (x ∷ xs) q = ap not (false_from_ne_true (length (x ∷ xs) == 0) (λ t. let e = eqb-true (length (x ∷ xs)) 0 t in omega (arith, e)))

  pub everyone_last : (a k : ℕ) → a < 4 → k + 1 ≡ n → is_in a (parties n k) ≡ true
  everyone_last a k agent e =
      ap (is_in a) (cond-true (k + 1 == n) everyone (by_turns (k % 3)) (eq-eqb (k + 1) n e)) ∙ (is_in-range_zero a 4 ∙ lt-ltb a 4 agent)

  -- an agent comes from atom i to some atom from k on, where none between the two has the agent as a party
  search_on : (a k d : ℕ) → a < 4 → k + d + 1 ≡ n → i < k → list_any (λ p. is_in a (parties n p)) (range_with_len (i + 1) (k - (i + 1))) ≡ false →
      (j : ℕ) × (i < j) × (j < n) × (is_next n i j a ≡ true)
  search_on a k zero agent end up none = (k, up, omega (arith, end), and_from _ _ (ap not none) (everyone_last a k agent (omega (arith, end))))
  search_on a k (suc d) agent end up none =
      ⊎_elim (λ m. (k, up, omega (arith, end), and_from _ _ (ap not none) m))
      (λ m. search_on a (k + 1) d agent (omega (arith, end)) (omega (arith, up)) (none_more (λ p. is_in a (parties n p)) i k (omega (arith, up)) none m))
      (cases_Bool (is_in a (parties n k)))

  -- every party of an atom but the last goes to some atom
  pub some_next : (a : ℕ) → a < 4 → i + 1 < n → (j : ℕ) × (i < j) × (j < n) × (is_next n i j a ≡ true)
  some_next a agent h =
      search_on a (i + 1) (n - (i + 2)) agent (omega (arith, h)) (omega arith)
      (ap (λ k. list_any (λ p. is_in a (parties n p)) (range_with_len (i + 1) k)) (let e : i + 1 - (i + 1) ≡ 0 = omega arith in e))
