-- Slots without targets: the least number of an atom's that isn't below one, and what it tells of alive outcomes.
use Rattle.std.proofs.Common.{◌≡◌, ◌≢◌, ◌⊎◌, inl, inr, ⊎_elim, ℕ, ◌<◌, ◌≤◌, List, [], length, slice_get, get_or, Some, refl, sym, subst, ap, ◌∙◌, arith}
use Rattle.std.specs.List.{AllPairs, Contains}
use Rattle.std.specs.List.Sorted.{IsPartitionPoint}
use Rattle.std.specs.Option.{option_cmp}
use Rattle.std.specs.Ordering.{nat_cmp, ordering_then}
use Rattle.std.specs.Cmp.{ranked}
use Rattle.std.specs.Cmp.Lexicographic.{slice_cmp}
use Rattle.std.specs.declared.cmp.Ordering.{Ordering}
use Rattle.std.specs.declared.cmp.Ordering.TheVariants.{Less, Equal, Greater}
use Rattle.std.proofs.lemmas.Bool.{cases_lt}
use Rattle.std.proofs.lemmas.Option.{slice_get_within, get_or_from_slice_get}
use Rattle.nego_expr.specs.Sorted.{PlainSlot, slot_cmp, member, IsBelow, IsNextOf}

-- ---- the order

then_less : (a b : Ordering) → ordering_then a b ≡ Less → (a ≡ Less) ⊎ ((a ≡ Equal) × (b ≡ Less))
then_less Less b h = inl refl
then_less Equal b h = inr (refl, h)
then_less Greater b h = inl h

then_greater : (a b : Ordering) → ordering_then a b ≡ Greater → (a ≡ Greater) ⊎ ((a ≡ Equal) × (b ≡ Greater))
then_greater Less b h = inl h
then_greater Equal b h = inr (refl, h)
then_greater Greater b h = inl refl

-- a slot that is below another is of no higher atom
below_atoms : (s t : PlainSlot) → slot_cmp s t ≡ Less → s.atom ≤ t.atom
below_atoms s t h = ⊎_elim
    (λ e. let l : s.atom < t.atom = ranked s.atom t.atom Less (sym e) in omega (arith, l))
    (λ k. let l : s.atom ≡ t.atom = ranked s.atom t.atom Equal (sym k.0) in omega (arith, l))
    (then_less (nat_cmp s.atom t.atom) (ordering_then (slice_cmp (option_cmp nat_cmp) s.targets t.targets) (nat_cmp s.outcome t.outcome)) h)

-- of one atom and without targets: it is of a lower number
below_numbers : (n a b : ℕ) → slot_cmp (member n a) (member n b) ≡ Less → a < b
below_numbers n a b h = ⊎_elim
    (λ e. let l : n < n = ranked n n Less (sym e) in absurd (omega (arith, l)))
    (λ k. ranked a b Less (sym k.1))
    (then_less (nat_cmp n n) (nat_cmp a b) h)

above_atoms : (s t : PlainSlot) → slot_cmp s t ≡ Greater → t.atom ≤ s.atom
above_atoms s t h = ⊎_elim
    (λ e. let l : t.atom < s.atom = ranked s.atom t.atom Greater (sym e) in omega (arith, l))
    (λ k. let l : s.atom ≡ t.atom = ranked s.atom t.atom Equal (sym k.0) in omega (arith, l))
    (then_greater (nat_cmp s.atom t.atom) (ordering_then (slice_cmp (option_cmp nat_cmp) s.targets t.targets) (nat_cmp s.outcome t.outcome)) h)

above_numbers : (n a b : ℕ) → slot_cmp (member n a) (member n b) ≡ Greater → b < a
above_numbers n a b h = ⊎_elim
    (λ e. let l : n < n = ranked n n Greater (sym e) in absurd (omega (arith, l)))
    (λ k. ranked a b Greater (sym k.1))
    (then_greater (nat_cmp n n) (nat_cmp a b) h)

-- ---- what a search finds

-- the slot of this number, where it is there
pub next-itself : (xs : List PlainSlot) (n from : ℕ) → Contains xs (member n from) → IsNextOf xs n from from
next-itself xs n from c = record { at_least = omega arith; there = c; least = λ m le lt d. omega (arith, le, lt) }

module _ (xs : List PlainSlot) (n from i : ℕ) (rise : AllPairs IsBelow xs) (parts : IsPartitionPoint (λ s. slot_cmp s (member n from) ≡ Less) (λ s. slot_cmp s (member n from) ≡ Greater) xs i) where
  -- what is before the place is of a lower number
  before : (m j : ℕ) → from ≤ m → j < length xs → j < i → get_or xs j (member n m) ≡ member n m → ⊥
  before m j le l lt e =
      let low : m < from = below_numbers n m from (subst (λ s. slot_cmp s (member n from) ≡ Less) e (parts.0 j (member n m) (omega arith) lt)) in
      omega (arith, low, le)

  -- nothing is behind the place
  pub next-end : length xs ≤ i → (m : ℕ) → from ≤ m → Contains xs (member n m) → ⊥
  next-end le m at_least c = before m c.0 at_least c.1 (let l : c.0 < length xs = c.1 in omega (arith, l, le)) c.2

  module _ (s : PlainSlot) (here : slice_get xs i ≡ Some s) where
    there : i < length xs
    there = slice_get_within xs i s here

    at : (d : PlainSlot) → get_or xs i d ≡ s
    at d = get_or_from_slice_get xs i s d here

    above : slot_cmp s (member n from) ≡ Greater
    above = subst (λ t. slot_cmp t (member n from) ≡ Greater) (at s) (parts.1 i s (omega arith) there)

    -- what stands at the place or behind it
    behind : (m j : ℕ) → j < length xs → i ≤ j → get_or xs j (member n m) ≡ member n m → (s ≡ member n m) ⊎ (slot_cmp s (member n m) ≡ Less)
    behind m j l le e = ⊎_elim
        (λ lt. inr (subst (λ t. slot_cmp s t ≡ Less) e (subst (λ t. slot_cmp t (get_or xs j (member n m)) ≡ Less) (at (member n m)) (rise i j (member n m) lt l))))
        (λ ge. inl (sym (at (member n m)) ∙ (ap (λ k. get_or xs k (member n m)) (let same : i ≡ j = omega (arith, le, ge) in same) ∙ e)))
        (cases_lt i j)

    -- a slot of another atom is at the place
    pub next-other : s.atom ≢ n → (m : ℕ) → from ≤ m → Contains xs (member n m) → ⊥
    next-other other m le c = ⊎_elim
        (λ lt. before m c.0 le c.1 lt c.2)
        (λ ge. ⊎_elim
        (λ e. other (ap (λ t. t.atom) e))
        (λ low. let l : s.atom ≤ n = below_atoms s (member n m) low in let k : n ≤ s.atom = above_atoms s (member n from) above in other (let e : s.atom ≡ n = omega (arith, l, k) in e))
        (behind m c.0 c.1 ge c.2))
        (cases_lt c.0 i)

    -- one of the atom is
    pub next-here : s.atom ≡ n → s.targets ≡ [] → IsNextOf xs n from s.outcome
    next-here own none = record {
      at_least = let l : from < s.outcome = above_numbers n s.outcome from (subst (λ t. slot_cmp t (member n from) ≡ Greater) is above) in omega (arith, l);
      there = subst (Contains xs) is (i, there, at s);
      least = λ m le lt c. ⊎_elim
          (λ low. before m c.0 le c.1 low c.2)
          (λ ge. ⊎_elim
          (λ e. let same : s.outcome ≡ m = ap (λ t. t.outcome) e in omega (arith, same, lt))
          (λ low. let l : s.outcome < m = below_numbers n s.outcome m (subst (λ t. slot_cmp t (member n m) ≡ Less) is low) in omega (arith, l, lt))
          (behind m c.0 c.1 ge c.2))
          (cases_lt c.0 i);
    }
      where
        is : s ≡ member n s.outcome
        is = λ k. record { atom = own k; targets = none k; outcome = s.outcome }
