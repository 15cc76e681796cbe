-- The slots of alive outcomes after an edit.
use Rattle.std.proofs.Common.{◌≡◌, ◌≢◌, ◌↔◌, ◌⊎◌, inl, inr, ⊎_elim, ℕ, ◌<◌, ◌==◌, not, cond, Bool, true, false, List, [], ◌∷◌, ◌++◌, map, Some, refl, sym, subst, ap, ◌∙◌, arith, eq-eqb, ne_eqb}
use Rattle.std.specs.List.{All, Contains, filter}
use Rattle.std.proofs.lemmas.Bool.{eqb-false, not-true, not_from_false}
use Rattle.std.proofs.lemmas.List.{map-append}
use Rattle.std.proofs.lemmas.List.Elements.{All-contains, All-map, All-weaker, Contains-append_left, Contains-push, Contains-push_cases}
use Rattle.std.proofs.lemmas.Option.{none-some}
use Rattle.nego_base.specs.Members.{IsRising}
use Rattle.nego_expr.specs.Edits.{with_outcome}
use Rattle.nego_expr.specs.Sorted.{PlainSlot, slot_of, AreSlotsOf}
use Rattle.nego_expr.specs.Work.{WorkOutcome, outcome_among}
use Rattle.nego_expr.proofs.EditCalls.{only_found}
use Rattle.nego_expr.proofs.Places.{filter-seen}
use Rattle.nego_expr.proofs.RisingLists.{Contains-head, Contains-tail, Contains-cases, Contains-nil, Contains-filter}
use Rattle.nego_expr.proofs.WorkEdits.{numbers_of, found_cases, found-number}

-- with one more outcome
pub slots-add : (outcomes : List WorkOutcome) (x : WorkOutcome) (old new : List PlainSlot) → AreSlotsOf outcomes old → ((slot : PlainSlot) → Contains new slot ↔ (Contains old slot ⊎ (slot ≡ slot_of x))) →
    AreSlotsOf (outcomes ++ x ∷ []) new
slots-add outcomes x old new are h slot = (
  λ c. subst (λ l. Contains l slot) (sym more) (⊎_elim
      (λ k. Contains-append_left (map slot_of outcomes) (slot_of x ∷ []) slot ((are slot).0 k))
      (λ e. subst (Contains (map slot_of outcomes ++ slot_of x ∷ [])) (sym e) (Contains-push (map slot_of outcomes) (slot_of x))) ((h slot).0 c)),
  λ c. (h slot).1 (⊎_elim (λ k. inl ((are slot).1 k)) (λ e. inr (sym e)) (Contains-push_cases (map slot_of outcomes) (slot_of x) slot (subst (λ l. Contains l slot) more c))),
)
  where
    more : map slot_of (outcomes ++ x ∷ []) ≡ map slot_of outcomes ++ slot_of x ∷ []
    more = map-append slot_of outcomes (x ∷ [])

-- no outcome has the slot of a number never used
pub unused_slot : (outcomes : List WorkOutcome) (numbers : ℕ) → All (λ x. x.number < numbers) outcomes → (slots : List PlainSlot) → AreSlotsOf outcomes slots → (slot : PlainSlot) → slot.outcome ≡ numbers → Contains slots slot → ⊥
unused_slot outcomes numbers used slots are slot e c =
    let below : slot.outcome < numbers = All-contains (λ s. s.outcome < numbers) (map slot_of outcomes) slot (All-map (λ s. s.outcome < numbers) slot_of outcomes used) ((are slot).0 c) in
    omega (arith, below, e)

-- without those of which the slots don't pass a test
slots-filter : (test : PlainSlot → Bool) (outcomes : List WorkOutcome) (old : List PlainSlot) → AreSlotsOf outcomes old → (slot : PlainSlot) →
    Contains (map slot_of (filter (λ x. test (slot_of x)) outcomes)) slot ↔ (Contains old slot × (test slot ≡ true))
slots-filter test outcomes old are slot =
    let k = Contains-filter test (map slot_of outcomes) slot in (
      λ c. let q = k.0 (subst (λ l. Contains l slot) (filter-seen slot_of test outcomes) c) in ((are slot).1 q.0, q.1),
      λ c. subst (λ l. Contains l slot) (sym (filter-seen slot_of test outcomes)) (k.1 ((are slot).0 c.0, c.1)),
    )

module _ (outcomes : List WorkOutcome) (rise : IsRising (numbers_of outcomes)) (o : ℕ) (x : WorkOutcome) (found : outcome_among outcomes o ≡ Some x) (old : List PlainSlot) (are : AreSlotsOf outcomes old) where
  -- the slot of an outcome that is found is one of theirs
  pub slot-found : Contains old (slot_of x)
  slot-found = (are (slot_of x)).1 (at outcomes found)
    where
      at : (ys : List WorkOutcome) → outcome_among ys o ≡ Some x → Contains (map slot_of ys) (slot_of x)
      at [] h = absurd (none-some x h)
      at (y ∷ ys) h = ⊎_elim (λ k. subst (λ z. Contains (slot_of y ∷ map slot_of ys) (slot_of z)) k.1 (Contains-head (slot_of y) (map slot_of ys)))
          (λ k. Contains-tail (slot_of y) (map slot_of ys) (slot_of x) (at ys k.1)) (found_cases y ys o x h)

  -- it is the only one of its number
  only_slot : (slot : PlainSlot) → Contains old slot → slot.outcome ≡ o → slot ≡ slot_of x
  only_slot slot c =
      All-contains (λ s. s.outcome ≡ o → s ≡ slot_of x) (map slot_of outcomes) slot
      (All-map (λ s. s.outcome ≡ o → s ≡ slot_of x) slot_of outcomes (All-weaker (λ z. z.number ≡ o → z ≡ x) (λ z. z.number ≡ o → slot_of z ≡ slot_of x) (λ z q e. ap slot_of (q e)) outcomes (only_found outcomes o x rise found)))
      ((are slot).0 c)

  of_number : (slot : PlainSlot) → slot ≡ slot_of x → slot.outcome ≡ o
  of_number slot e = ap (λ s. s.outcome) e ∙ found-number outcomes o x found

  -- without this outcome
  pub slots-without : (new : List PlainSlot) → ((slot : PlainSlot) → Contains new slot ↔ (Contains old slot × (slot ≢ slot_of x))) → AreSlotsOf (filter (λ z. not (z.number == o)) outcomes) new
  slots-without new h slot =
      let k = slots-filter (λ s. not (s.outcome == o)) outcomes old are slot in (
        λ c. let q = (h slot).0 c in k.1 (q.0, not_from_false (slot.outcome == o) (ne_eqb slot.outcome o (λ e. q.1 (only_slot slot q.0 e)))),
        λ c. let q = k.0 c in (h slot).1 (q.0, λ e. eqb-false slot.outcome o (not-true (slot.outcome == o) q.1) (of_number slot e)),
      )

  -- with another in its place
  pub slots-set : (y : WorkOutcome) → y.number ≡ o → (new : List PlainSlot) → ((slot : PlainSlot) → Contains new slot ↔ ((Contains old slot × (slot ≢ slot_of x)) ⊎ (slot ≡ slot_of y))) →
      AreSlotsOf (with_outcome y outcomes) new
  slots-set y same new h slot = (
    λ c. ⊎_elim
        (λ q. with_other outcomes slot ((are slot).0 q.0) (λ e. q.1 (only_slot slot q.0 (e ∙ same))))
        (λ e. subst (Contains (map slot_of (with_outcome y outcomes))) (sym e) (with_itself outcomes (subst (λ n. outcome_among outcomes n ≡ Some x) (sym same) found)))
        ((h slot).0 c),
    λ c. (h slot).1 (⊎_elim (λ e. inr e) (λ q. inl ((are slot).1 q.0, λ e. q.1 (of_number slot e ∙ sym same))) (with_cases outcomes slot c)),
  )
    where
      -- an outcome, or the one in its place
      now : WorkOutcome → WorkOutcome
      now z = cond (z.number == y.number) y z

      with_cases : (zs : List WorkOutcome) (s : PlainSlot) → Contains (map slot_of (with_outcome y zs)) s → (s ≡ slot_of y) ⊎ (Contains (map slot_of zs) s × (s.outcome ≢ y.number))
      with_cases [] s c = absurd (Contains-nil s c)
      with_cases (z ∷ zs) s c = go (z.number == y.number) refl (with_cases zs s) c
        where
          later : (s ≡ slot_of y) ⊎ (Contains (map slot_of zs) s × (s.outcome ≢ y.number)) → (s ≡ slot_of y) ⊎ (Contains (slot_of z ∷ map slot_of zs) s × (s.outcome ≢ y.number))
          later = ⊎_elim (λ e. inl e) (λ q. inr (Contains-tail (slot_of z) (map slot_of zs) s q.0, q.1))

          go : (b : Bool) → (z.number == y.number) ≡ b → (Contains (map slot_of (with_outcome y zs)) s → (s ≡ slot_of y) ⊎ (Contains (map slot_of zs) s × (s.outcome ≢ y.number))) →
              Contains (slot_of (cond b y z) ∷ map slot_of (with_outcome y zs)) s → (s ≡ slot_of y) ⊎ (Contains (slot_of z ∷ map slot_of zs) s × (s.outcome ≢ y.number))
          go true e more d = ⊎_elim (λ k. inl k) (λ k. later (more k)) (Contains-cases (slot_of y) (map slot_of (with_outcome y zs)) s d)
          go false e more d = ⊎_elim
              (λ k. inr (subst (Contains (slot_of z ∷ map slot_of zs)) (sym k) (Contains-head (slot_of z) (map slot_of zs)), λ q. eqb-false z.number y.number e (sym (ap (λ t. t.outcome) k) ∙ q)))
              (λ k. later (more k)) (Contains-cases (slot_of z) (map slot_of (with_outcome y zs)) s d)

      with_other : (zs : List WorkOutcome) (s : PlainSlot) → Contains (map slot_of zs) s → s.outcome ≢ y.number → Contains (map slot_of (with_outcome y zs)) s
      with_other [] s c other = c
      with_other (z ∷ zs) s c other = ⊎_elim
          (λ e. subst (λ b. Contains (slot_of (cond b y z) ∷ map slot_of (with_outcome y zs)) s) (sym (ne_eqb z.number y.number (λ q. other (ap (λ t. t.outcome) e ∙ q))))
          (subst (Contains (slot_of z ∷ map slot_of (with_outcome y zs))) (sym e) (Contains-head (slot_of z) (map slot_of (with_outcome y zs)))))
          (λ q. Contains-tail (slot_of (now z)) (map slot_of (with_outcome y zs)) s (with_other zs s q other))
          (Contains-cases (slot_of z) (map slot_of zs) s c)

      with_itself : (zs : List WorkOutcome) → outcome_among zs y.number ≡ Some x → Contains (map slot_of (with_outcome y zs)) (slot_of y)
      with_itself [] e = absurd (none-some x e)
      with_itself (z ∷ zs) e = ⊎_elim
          (λ k. subst (λ b. Contains (slot_of (cond b y z) ∷ map slot_of (with_outcome y zs)) (slot_of y)) (sym (eq-eqb z.number y.number k.0)) (Contains-head (slot_of y) (map slot_of (with_outcome y zs))))
          (λ k. Contains-tail (slot_of (now z)) (map slot_of (with_outcome y zs)) (slot_of y) (with_itself zs k.1))
          (found_cases z zs y.number x e)
