-- Laws of the next use: it is allowed, and there is one at most.
use Rattle.std.proofs.Common.{◌≡◌, inl, inr, ⊎_elim, ℕ, ◌<◌, Bool, ◌==◌, ◌&&◌, not, length, false, IsTrue, refl, sym, ap, ap₂, ◌∙◌, arith}
use Rattle.std.proofs.lemmas.Bool.{and_parts, true≢false, cases_lt}
use Rattle.nego_expr.specs.Work.{PlainWork, outcomes_at}
use Rattle.nego_expr.specs.Use.{PlainUse, Merge, Iterate, Shortcut, Close, allows}
use Rattle.nego_reduce.specs.Order.{IsPairBelow, IsNextUse, NextUsesAreOne, has_passed, takes_shortcut}

-- a shortcut that the order takes is allowed
taken_allowed : (work : PlainWork) (o n : ℕ) → IsTrue (takes_shortcut work o n) → IsTrue (allows work (Shortcut o n))
taken_allowed work o n h = (and_parts (allows work (Shortcut o n)) ((length (outcomes_at work n) == 1) && not (has_passed work o n)) h).0

-- the next use is allowed
pub next_allowed : (work : PlainWork) (next : PlainUse) → IsNextUse work next → IsTrue (allows work next)
next_allowed work (Merge o1 o2) h = h.allowed
next_allowed work (Iterate o) h = h.1.allowed
next_allowed work (Shortcut o n) h = taken_allowed work o n h.2.taken
next_allowed work Close h = h.3

-- of two numbers that are the least to pass a test, each is the other
least_number : (test : ℕ → Bool) (o p : ℕ) → IsTrue (test o) → ((q : ℕ) → q < o → test q ≡ false) → IsTrue (test p) → ((q : ℕ) → q < p → test q ≡ false) → o ≡ p
least_number test o p h least k least' = ⊎_elim
    (λ l. absurd (true≢false (sym h ∙ least' o l)))
    (λ l. ⊎_elim (λ m. absurd (true≢false (sym k ∙ least p m))) (λ m. omega (arith, l, m)) (cases_lt p o))
    (cases_lt o p)

-- of two pairs likewise
least_pair : (test : ℕ → ℕ → Bool) (o1 o2 p1 p2 : ℕ) → IsTrue (test o1 o2) → ((q1 q2 : ℕ) → IsPairBelow q1 q2 o1 o2 → test q1 q2 ≡ false) →
    IsTrue (test p1 p2) → ((q1 q2 : ℕ) → IsPairBelow q1 q2 p1 p2 → test q1 q2 ≡ false) → (o1 ≡ p1) × (o2 ≡ p2)
least_pair test o1 o2 p1 p2 h least k least' = (first, second)
  where
    first : o1 ≡ p1
    first = ⊎_elim
        (λ l. absurd (true≢false (sym h ∙ least' o1 o2 (inl l))))
        (λ l. ⊎_elim (λ m. absurd (true≢false (sym k ∙ least p1 p2 (inl m)))) (λ m. omega (arith, l, m)) (cases_lt p1 o1))
        (cases_lt o1 p1)

    second : o2 ≡ p2
    second = ⊎_elim
        (λ l. absurd (true≢false (sym h ∙ least' o1 o2 (inr (first, l)))))
        (λ l. ⊎_elim (λ m. absurd (true≢false (sym k ∙ least p1 p2 (inr (sym first, m))))) (λ m. omega (arith, l, m)) (cases_lt p2 o2))
        (cases_lt o2 p2)

-- a work has at most one next use
pub next_one : NextUsesAreOne
next_one work (Merge o1 o2) (Merge p1 p2) h k = let e = least_pair (λ q1 q2. allows work (Merge q1 q2)) o1 o2 p1 p2 h.allowed h.least k.allowed k.least in ap₂ Merge e.0 e.1
next_one work (Merge o1 o2) (Iterate p) h k = absurd (true≢false (sym h.allowed ∙ k.0 o1 o2))
next_one work (Merge o1 o2) (Shortcut p m) h k = absurd (true≢false (sym h.allowed ∙ k.0 o1 o2))
next_one work (Merge o1 o2) Close h k = absurd (true≢false (sym h.allowed ∙ k.0 o1 o2))
next_one work (Iterate o) (Merge p1 p2) h k = absurd (true≢false (sym k.allowed ∙ h.0 p1 p2))
next_one work (Iterate o) (Iterate p) h k = ap Iterate (least_number (λ q. allows work (Iterate q)) o p h.1.allowed h.1.least k.1.allowed k.1.least)
next_one work (Iterate o) (Shortcut p m) h k = absurd (true≢false (sym h.1.allowed ∙ k.1 o))
next_one work (Iterate o) Close h k = absurd (true≢false (sym h.1.allowed ∙ k.1 o))
next_one work (Shortcut o n) (Merge p1 p2) h k = absurd (true≢false (sym k.allowed ∙ h.0 p1 p2))
next_one work (Shortcut o n) (Iterate p) h k = absurd (true≢false (sym k.1.allowed ∙ h.1 p))
next_one work (Shortcut o n) (Shortcut p m) h k = let e = least_pair (takes_shortcut work) o n p m h.2.taken h.2.least k.2.taken k.2.least in ap₂ Shortcut e.0 e.1
next_one work (Shortcut o n) Close h k = absurd (true≢false (sym h.2.taken ∙ k.2 o n))
next_one work Close (Merge p1 p2) h k = absurd (true≢false (sym k.allowed ∙ h.0 p1 p2))
next_one work Close (Iterate p) h k = absurd (true≢false (sym k.1.allowed ∙ h.1 p))
next_one work Close (Shortcut p m) h k = absurd (true≢false (sym k.2.taken ∙ h.2 p m))
next_one work Close Close h k = refl
