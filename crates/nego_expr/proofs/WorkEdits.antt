-- Laws of the alive outcomes of a work: what is found among them by its number, before and after an edit.
use Rattle.std.proofs.Common.{◌≡◌, ◌≢◌, ◌⊎◌, inl, inr, ⊎_elim, ℕ, ◌+◌, ◌≤◌, Bool, true, false, not, ◌==◌, cond, List, [], ◌∷◌, ◌++◌, map, option_map, slice_get, Option, Some, None, IsTrue, refl, sym, subst, ap, ap₂, ◌∙◌, arith, eq-eqb, ne_eqb, eqb-true}
use Rattle.std.proofs.lemmas.Bool.{cond-true, cond-false, cases_eq, true≢false}
use Rattle.std.proofs.lemmas.Option.{none-some, same_Some, slice_get_within, get_or_from_slice_get}
use Rattle.std.proofs.lemmas.List.Elements.{All-nil, All-cons, All-head, All-tail, All-filter, All-get_or}
use Rattle.std.specs.List.{All, filter}
use Rattle.nego_base.specs.Members.{is_in, without_member, RisesFrom, IsRising}
use Rattle.nego_base.proofs.Members.{is_in-head, is_in-tail, is_in-cases, is_in_none, rises_more}
use Rattle.nego_expr.specs.Work.{WorkAtom, WorkOutcome, parties_among, outcome_among}
use Rattle.nego_expr.specs.Edits.{with_outcome, without_outcome}
use Rattle.nego_expr.proofs.Alive.{outcome_among_first, outcome_among_later, each_found}

-- the outcomes' numbers
abbrev pub numbers_of : List WorkOutcome → List ℕ
numbers_of outcomes = map (λ outcome. outcome.number) outcomes

-- an outcome with another node
abbrev pub with_node : ℕ → WorkOutcome → WorkOutcome
with_node i x = record x { node = i }

-- what holds of each outcome holds of the one at a place
pub All-at_place : (P : WorkOutcome → Type 0) (outcomes : List WorkOutcome) (k : ℕ) (x : WorkOutcome) → All P outcomes → slice_get outcomes k ≡ Some x → P x
All-at_place P outcomes k x h e = subst P (get_or_from_slice_get outcomes k x x e) (All-get_or P outcomes k x (slice_get_within outcomes k x e) h)

-- ---- what is found by a number

-- what is found is the first, where it has the number, or else is found behind it
pub found_cases : (y : WorkOutcome) (ys : List WorkOutcome) (o : ℕ) (x : WorkOutcome) → outcome_among (y ∷ ys) o ≡ Some x →
    ((y.number ≡ o) × (y ≡ x)) ⊎ ((y.number ≢ o) × (outcome_among ys o ≡ Some x))
found_cases y ys o x h = ⊎_elim
    (λ e. inl (e, same_Some y x (sym (cond-true (y.number == o) (Some y) (outcome_among ys o) (eq-eqb y.number o e)) ∙ h)))
    (λ other. inr (other, sym (outcome_among_later y ys o other) ∙ h))
    (cases_eq y.number o)

-- what is found has the number
pub found-number : (outcomes : List WorkOutcome) (o : ℕ) (x : WorkOutcome) → outcome_among outcomes o ≡ Some x → x.number ≡ o
found-number [] o x h = absurd (none-some x h)
found-number (y ∷ ys) o x h = ⊎_elim (λ k. subst (λ z. z.number ≡ o) k.1 k.0) (λ k. found-number ys o x k.1) (found_cases y ys o x h)

-- what holds of each outcome holds of what is found
pub All-found : (P : WorkOutcome → Type 0) (outcomes : List WorkOutcome) (o : ℕ) (x : WorkOutcome) → All P outcomes → outcome_among outcomes o ≡ Some x → P x
All-found P [] o x h k = absurd (none-some x k)
All-found P (y ∷ ys) o x h k = ⊎_elim (λ q. subst P q.1 (All-head P y ys h)) (λ q. All-found P ys o x (All-tail P y ys h) q.1) (found_cases y ys o x k)

-- the numbers of those that pass a test have each a passing outcome, of which holds what holds of each
pub passing_at : (test : WorkOutcome → Bool) (P : WorkOutcome → Type 0) (outcomes : List WorkOutcome) (o : ℕ) → All P outcomes → IsTrue (is_in o (numbers_of (filter test outcomes))) →
    (x : WorkOutcome) × (x.number ≡ o) × IsTrue (test x) × P x
passing_at test P [] o h k = absurd (is_in_none o [] refl k)
passing_at test P (y ∷ ys) o h k = go (test y) refl k (passing_at test P ys o (All-tail P y ys h))
  where
    go : (b : Bool) → test y ≡ b → IsTrue (is_in o (numbers_of (cond b (y ∷ filter test ys) (filter test ys)))) →
        (IsTrue (is_in o (numbers_of (filter test ys))) → (x : WorkOutcome) × (x.number ≡ o) × IsTrue (test x) × P x) → (x : WorkOutcome) × (x.number ≡ o) × IsTrue (test x) × P x
    go true e m more = ⊎_elim (λ q. (y, sym q, e, All-head P y ys h)) (λ q. more q) (is_in-cases o y.number (numbers_of (filter test ys)) m)
    go false e m more = more m

-- the number of what is found and passes a test is a number of those that pass
pub found_passing : (test : WorkOutcome → Bool) (outcomes : List WorkOutcome) (o : ℕ) (x : WorkOutcome) → outcome_among outcomes o ≡ Some x → IsTrue (test x) → IsTrue (is_in o (numbers_of (filter test outcomes)))
found_passing test [] o x h t = absurd (none-some x h)
found_passing test (y ∷ ys) o x h t = ⊎_elim
    (λ k. here k.0 (subst (λ z. IsTrue (test z)) (sym k.1) t))
    (λ k. later (test y) (found_passing test ys o x k.1 t))
    (found_cases y ys o x h)
  where
    here : y.number ≡ o → IsTrue (test y) → IsTrue (is_in o (numbers_of (filter test (y ∷ ys))))
    here e q = subst (λ zs. IsTrue (is_in o (numbers_of zs))) (sym (cond-true (test y) (y ∷ filter test ys) (filter test ys) q))
        (subst (λ n. IsTrue (is_in n (y.number ∷ numbers_of (filter test ys)))) e (is_in-head y.number (numbers_of (filter test ys))))

    later : (b : Bool) → IsTrue (is_in o (numbers_of (filter test ys))) → IsTrue (is_in o (numbers_of (cond b (y ∷ filter test ys) (filter test ys))))
    later true m = is_in-tail o y.number (numbers_of (filter test ys)) m
    later false m = m

-- by a number that is there, an outcome is found
pub found_there : (outcomes : List WorkOutcome) (o : ℕ) → IsTrue (is_in o (numbers_of outcomes)) → (x : WorkOutcome) × (outcome_among outcomes o ≡ Some x)
found_there [] o h = absurd (is_in_none o [] refl h)
found_there (y ∷ ys) o h = ⊎_elim
    (λ e. (y, subst (λ n. outcome_among (y ∷ ys) n ≡ Some y) e (outcome_among_first y ys)))
    (λ other. ⊎_elim (λ e. absurd (other (sym e))) (λ m. let k = found_there ys o m in (k.0, outcome_among_later y ys o other ∙ k.1)) (is_in-cases o y.number (numbers_of ys) h))
    (cases_eq y.number o)

-- the number of what is found is there
pub there_found : (outcomes : List WorkOutcome) (o : ℕ) (x : WorkOutcome) → outcome_among outcomes o ≡ Some x → IsTrue (is_in o (numbers_of outcomes))
there_found [] o x h = absurd (none-some x h)
there_found (y ∷ ys) o x h = ⊎_elim
    (λ k. subst (λ n. IsTrue (is_in n (y.number ∷ numbers_of ys))) k.0 (is_in-head y.number (numbers_of ys)))
    (λ k. is_in-tail o y.number (numbers_of ys) (there_found ys o x k.1))
    (found_cases y ys o x h)

-- by a number that isn't there, none is found
pub none_found : (outcomes : List WorkOutcome) (o : ℕ) → (IsTrue (is_in o (numbers_of outcomes)) → ⊥) → outcome_among outcomes o ≡ None
none_found outcomes o h = go (outcome_among outcomes o) refl
  where
    go : (found : Option WorkOutcome) → outcome_among outcomes o ≡ found → found ≡ None
    go None e = refl
    go (Some x) e = absurd (h (there_found outcomes o x e))

-- where numbers rise, what is found and passes a test is found among those that pass
pub found-passing : (test : WorkOutcome → Bool) (outcomes : List WorkOutcome) (o : ℕ) (x : WorkOutcome) → IsRising (numbers_of outcomes) → outcome_among outcomes o ≡ Some x → IsTrue (test x) → outcome_among (filter test outcomes) o ≡ Some x
found-passing test outcomes o x rise h t =
    let y = found_there (filter test outcomes) o (found_passing test outcomes o x h t) in
    let Found : WorkOutcome → Type 0 = λ z. outcome_among outcomes z.number ≡ Some z in
    let k : outcome_among outcomes y.0.number ≡ Some y.0 = All-found Found (filter test outcomes) o y.0 (All-filter test Found outcomes (each_found outcomes rise)) y.1 in
    let e : y.0 ≡ x = same_Some y.0 x (sym k ∙ (ap (outcome_among outcomes) (found-number (filter test outcomes) o y.0 y.1) ∙ h)) in
    y.1 ∙ ap (λ z. Some z) e

-- the numbers of those that pass a test rise where the numbers do
pub rises-passing : (test : WorkOutcome → Bool) (low : ℕ) (outcomes : List WorkOutcome) → RisesFrom low (numbers_of outcomes) → RisesFrom low (numbers_of (filter test outcomes))
rises-passing test low [] h = tt
rises-passing test low (y ∷ ys) h = go (test y) (rises-passing test (y.number + 1) ys h.1)
  where
    go : (b : Bool) → RisesFrom (y.number + 1) (numbers_of (filter test ys)) → RisesFrom low (numbers_of (cond b (y ∷ filter test ys) (filter test ys)))
    go true k = (h.0, k)
    go false k = rises_more low (y.number + 1) (numbers_of (filter test ys)) (let from : low ≤ y.number = h.0 in omega (arith, from)) k

-- those that pass a test, of those that pass a wider one, are all of them
pub filter-within : (p q : WorkOutcome → Bool) → ((z : WorkOutcome) → p z ≡ true → q z ≡ true) → (zs : List WorkOutcome) → filter p (filter q zs) ≡ filter p zs
filter-within p q h [] = refl
filter-within p q h (y ∷ ys) = go (p y) (q y) refl refl (filter-within p q h ys)
  where
    go : (b t : Bool) → p y ≡ b → q y ≡ t → filter p (filter q ys) ≡ filter p ys → filter p (cond t (y ∷ filter q ys) (filter q ys)) ≡ cond b (y ∷ filter p ys) (filter p ys)
    go true true e f k = cond-true (p y) (y ∷ filter p (filter q ys)) (filter p (filter q ys)) e ∙ ap (◌∷◌ y) k
    go true false e f k = absurd (true≢false (sym (h y e) ∙ f))
    go false true e f k = cond-false (p y) (y ∷ filter p (filter q ys)) (filter p (filter q ys)) e ∙ k
    go false false e f k = k

-- two tests may be made in any order
pub filter-swap : (p q : WorkOutcome → Bool) (outcomes : List WorkOutcome) → filter p (filter q outcomes) ≡ filter q (filter p outcomes)
filter-swap p q [] = refl
filter-swap p q (y ∷ ys) = go (p y) (q y) refl refl (filter-swap p q ys)
  where
    go : (b t : Bool) → p y ≡ b → q y ≡ t → filter p (filter q ys) ≡ filter q (filter p ys) → filter p (cond t (y ∷ filter q ys) (filter q ys)) ≡ filter q (cond b (y ∷ filter p ys) (filter p ys))
    go true true e f k = cond-true (p y) (y ∷ filter p (filter q ys)) (filter p (filter q ys)) e ∙ (ap (◌∷◌ y) k ∙ sym (cond-true (q y) (y ∷ filter q (filter p ys)) (filter q (filter p ys)) f))
    go true false e f k = k ∙ sym (cond-false (q y) (y ∷ filter q (filter p ys)) (filter q (filter p ys)) f)
    go false true e f k = cond-false (p y) (y ∷ filter p (filter q ys)) (filter p (filter q ys)) e ∙ k
    go false false e f k = k

-- ---- each outcome is changed, and none gets another number

module _ (change : WorkOutcome → WorkOutcome) (same : (x : WorkOutcome) → (change x).number ≡ x.number) where
  -- the numbers stay
  pub numbers-changed : (outcomes : List WorkOutcome) → numbers_of (map change outcomes) ≡ numbers_of outcomes
  numbers-changed [] = refl
  numbers-changed (y ∷ ys) = ap₂ ◌∷◌ (same y) (numbers-changed ys)

  -- what was found is found changed
  pub found-changed : (outcomes : List WorkOutcome) (o : ℕ) → outcome_among (map change outcomes) o ≡ option_map change (outcome_among outcomes o)
  found-changed [] o = refl
  found-changed (y ∷ ys) o = ap (λ n. cond (n == o) (Some (change y)) (outcome_among (map change ys) o)) (same y) ∙ go (y.number == o) (found-changed ys o)
    where
      go : (b : Bool) → outcome_among (map change ys) o ≡ option_map change (outcome_among ys o) →
          cond b (Some (change y)) (outcome_among (map change ys) o) ≡ option_map change (cond b (Some y) (outcome_among ys o))
      go true k = refl
      go false k = k

-- ---- outcomes are added at the end

-- what was found is found
pub found-before : (outcomes more : List WorkOutcome) (o : ℕ) (x : WorkOutcome) → outcome_among outcomes o ≡ Some x → outcome_among (outcomes ++ more) o ≡ Some x
found-before [] more o x h = absurd (none-some x h)
found-before (y ∷ ys) more o x h = ⊎_elim
    (λ k. cond-true (y.number == o) (Some y) (outcome_among (ys ++ more) o) (eq-eqb y.number o k.0) ∙ ap (λ z. Some z) k.1)
    (λ k. outcome_among_later y (ys ++ more) o k.0 ∙ found-before ys more o x k.1)
    (found_cases y ys o x h)

-- by a number that wasn't there, what is found is among the added ones
pub found-behind : (outcomes more : List WorkOutcome) (o : ℕ) → outcome_among outcomes o ≡ None → outcome_among (outcomes ++ more) o ≡ outcome_among more o
found-behind [] more o h = refl
found-behind (y ∷ ys) more o h = ⊎_elim
    (λ e. absurd (none-some y (sym h ∙ cond-true (y.number == o) (Some y) (outcome_among ys o) (eq-eqb y.number o e))))
    (λ other. outcome_among_later y (ys ++ more) o other ∙ found-behind ys more o (sym (outcome_among_later y ys o other) ∙ h))
    (cases_eq y.number o)

-- ---- one outcome is another now

-- the outcome that stands at the place of one
abbrev replaced : WorkOutcome → WorkOutcome → WorkOutcome
replaced new x = cond (x.number == new.number) new x

replaced-same : (new x : WorkOutcome) → x.number ≡ new.number → replaced new x ≡ new
replaced-same new x e = cond-true (x.number == new.number) new x (eq-eqb x.number new.number e)

replaced-other : (new x : WorkOutcome) → x.number ≢ new.number → replaced new x ≡ x
replaced-other new x h = cond-false (x.number == new.number) new x (ne_eqb x.number new.number h)

-- the numbers stay
pub numbers-with_outcome : (new : WorkOutcome) (outcomes : List WorkOutcome) → numbers_of (with_outcome new outcomes) ≡ numbers_of outcomes
numbers-with_outcome new [] = refl
numbers-with_outcome new (y ∷ ys) = ap₂ ◌∷◌
    (⊎_elim (λ e. ap (λ z. z.number) (replaced-same new y e) ∙ sym e) (λ other. ap (λ z. z.number) (replaced-other new y other)) (cases_eq y.number new.number))
    (numbers-with_outcome new ys)

-- those that pass a test change likewise, where the new outcome passes it as the one of its number did
pub filter-with_outcome : (test : WorkOutcome → Bool) (new : WorkOutcome) (outcomes : List WorkOutcome) → All (λ x. x.number ≡ new.number → test x ≡ test new) outcomes →
    filter test (with_outcome new outcomes) ≡ with_outcome new (filter test outcomes)
filter-with_outcome test new [] h = refl
filter-with_outcome test new (y ∷ ys) h =
    let rest : filter test (with_outcome new ys) ≡ with_outcome new (filter test ys) = filter-with_outcome test new ys (All-tail Same y ys h) in
    ap (λ b. cond b (replaced new y ∷ filter test (with_outcome new ys)) (filter test (with_outcome new ys))) passes ∙ go (test y) rest
  where
    Same : WorkOutcome → Type 0
    Same x = x.number ≡ new.number → test x ≡ test new

    passes : test (replaced new y) ≡ test y
    passes = ⊎_elim (λ e. ap test (replaced-same new y e) ∙ sym (All-head Same y ys h e)) (λ other. ap test (replaced-other new y other)) (cases_eq y.number new.number)

    go : (b : Bool) → filter test (with_outcome new ys) ≡ with_outcome new (filter test ys) →
        cond b (replaced new y ∷ filter test (with_outcome new ys)) (filter test (with_outcome new ys)) ≡ with_outcome new (cond b (y ∷ filter test ys) (filter test ys))
    go true k = ap (◌∷◌ (replaced new y)) k
    go false k = k

-- so their numbers stay
pub passing-with_outcome : (test : WorkOutcome → Bool) (new : WorkOutcome) (outcomes : List WorkOutcome) → All (λ x. x.number ≡ new.number → test x ≡ test new) outcomes →
    numbers_of (filter test (with_outcome new outcomes)) ≡ numbers_of (filter test outcomes)
passing-with_outcome test new outcomes h = ap numbers_of (filter-with_outcome test new outcomes h) ∙ numbers-with_outcome new (filter test outcomes)

-- by its number the new outcome is found
pub found-with_outcome : (new : WorkOutcome) (outcomes : List WorkOutcome) → IsTrue (is_in new.number (numbers_of outcomes)) → outcome_among (with_outcome new outcomes) new.number ≡ Some new
found-with_outcome new [] h = absurd (is_in_none new.number [] refl h)
found-with_outcome new (y ∷ ys) h = ⊎_elim
    (λ e. ap (λ z. outcome_among (z ∷ with_outcome new ys) new.number) (replaced-same new y e) ∙ outcome_among_first new (with_outcome new ys))
    (λ other. ap (λ z. outcome_among (z ∷ with_outcome new ys) new.number) (replaced-other new y other)
    ∙ (outcome_among_later y (with_outcome new ys) new.number other
    ∙ ⊎_elim (λ e. absurd (other (sym e))) (λ m. found-with_outcome new ys m) (is_in-cases new.number y.number (numbers_of ys) h)))
    (cases_eq y.number new.number)

-- by other numbers the same is found as before
pub found-with_other : (new : WorkOutcome) (outcomes : List WorkOutcome) (o : ℕ) → o ≢ new.number → outcome_among (with_outcome new outcomes) o ≡ outcome_among outcomes o
found-with_other new [] o h = refl
found-with_other new (y ∷ ys) o h = ⊎_elim
    (λ e. ap (λ z. outcome_among (z ∷ with_outcome new ys) o) (replaced-same new y e)
    ∙ (outcome_among_later new (with_outcome new ys) o (λ q. h (sym q))
    ∙ (found-with_other new ys o h ∙ sym (outcome_among_later y ys o (λ q. h (sym q ∙ e))))))
    (λ other. ap (λ z. outcome_among (z ∷ with_outcome new ys) o) (replaced-other new y other)
    ∙ ap (λ found. cond (y.number == o) (Some y) found) (found-with_other new ys o h))
    (cases_eq y.number new.number)

-- what holds of each, and of the new one, holds of each now
pub All-with_outcome : (P : WorkOutcome → Type 0) (new : WorkOutcome) (outcomes : List WorkOutcome) → P new → All P outcomes → All P (with_outcome new outcomes)
All-with_outcome P new [] p h = All-nil P
All-with_outcome P new (y ∷ ys) p h =
    All-cons P (replaced new y) (with_outcome new ys)
    (⊎_elim (λ e. subst P (sym (replaced-same new y e)) p) (λ other. subst P (sym (replaced-other new y other)) (All-head P y ys h)) (cases_eq y.number new.number))
    (All-with_outcome P new ys p (All-tail P y ys h))

-- ---- one outcome is gone

-- the numbers are without it
pub numbers-without_outcome : (o : ℕ) (outcomes : List WorkOutcome) → numbers_of (without_outcome o outcomes) ≡ without_member o (numbers_of outcomes)
numbers-without_outcome o [] = refl
numbers-without_outcome o (y ∷ ys) = go (not (y.number == o)) (numbers-without_outcome o ys)
  where
    go : (b : Bool) → numbers_of (without_outcome o ys) ≡ without_member o (numbers_of ys) →
        numbers_of (cond b (y ∷ without_outcome o ys) (without_outcome o ys)) ≡ cond b (y.number ∷ without_member o (numbers_of ys)) (without_member o (numbers_of ys))
    go true k = ap (◌∷◌ y.number) k
    go false k = k

-- the numbers of those that pass a test are without it
pub passing-without_outcome : (test : WorkOutcome → Bool) (o : ℕ) (outcomes : List WorkOutcome) → numbers_of (filter test (without_outcome o outcomes)) ≡ without_member o (numbers_of (filter test outcomes))
passing-without_outcome test o outcomes = ap numbers_of (filter-swap test (λ x. not (x.number == o)) outcomes) ∙ numbers-without_outcome o (filter test outcomes)

-- by its number none is found
pub found-without_same : (o : ℕ) (outcomes : List WorkOutcome) → outcome_among (without_outcome o outcomes) o ≡ None
found-without_same o [] = refl
found-without_same o (y ∷ ys) = go (y.number == o) refl (found-without_same o ys)
  where
    go : (b : Bool) → (y.number == o) ≡ b → outcome_among (without_outcome o ys) o ≡ None → outcome_among (cond (not b) (y ∷ without_outcome o ys) (without_outcome o ys)) o ≡ None
    go true e k = k
    go false e k = cond-false (y.number == o) (Some y) (outcome_among (without_outcome o ys) o) e ∙ k

-- by other numbers the same is found as before
pub found-without_other : (o : ℕ) (outcomes : List WorkOutcome) (p : ℕ) → p ≢ o → outcome_among (without_outcome o outcomes) p ≡ outcome_among outcomes p
found-without_other o [] p h = refl
found-without_other o (y ∷ ys) p h = go (y.number == o) refl (found-without_other o ys p h)
  where
    go : (b : Bool) → (y.number == o) ≡ b → outcome_among (without_outcome o ys) p ≡ outcome_among ys p →
        outcome_among (cond (not b) (y ∷ without_outcome o ys) (without_outcome o ys)) p ≡ outcome_among (y ∷ ys) p
    go true e k = k ∙ sym (outcome_among_later y ys p (λ q. h (sym q ∙ eqb-true y.number o e)))
    go false e k = ap (λ found. cond (y.number == p) (Some y) found) k

-- what holds of each holds of each that is left
pub All-without_outcome : (P : WorkOutcome → Type 0) (o : ℕ) (outcomes : List WorkOutcome) → All P outcomes → All P (without_outcome o outcomes)
All-without_outcome P o outcomes h = All-filter (λ x. not (x.number == o)) P outcomes h

-- ---- atoms that are left

-- the numbers of the atoms whose number passes a test
pub atoms-filter : (test : ℕ → Bool) (atoms : List WorkAtom) → map (λ atom. atom.number) (filter (λ atom. test atom.number) atoms) ≡ filter test (map (λ atom. atom.number) atoms)
atoms-filter test [] = refl
atoms-filter test (y ∷ ys) = go (test y.number) (atoms-filter test ys)
  where
    go : (b : Bool) → map (λ atom. atom.number) (filter (λ atom. test atom.number) ys) ≡ filter test (map (λ atom. atom.number) ys) →
        map (λ atom. atom.number) (cond b (y ∷ filter (λ atom. test atom.number) ys) (filter (λ atom. test atom.number) ys)) ≡ cond b (y.number ∷ filter test (map (λ atom. atom.number) ys)) (filter test (map (λ atom. atom.number) ys))
    go true k = ap (◌∷◌ y.number) k
    go false k = k

-- an atom that is left has its parties
pub parties-filter : (test : ℕ → Bool) (atoms : List WorkAtom) (n : ℕ) → IsTrue (test n) → parties_among (filter (λ atom. test atom.number) atoms) n ≡ parties_among atoms n
parties-filter test [] n h = refl
parties-filter test (y ∷ ys) n h = go (test y.number) refl (parties-filter test ys n h)
  where
    go : (b : Bool) → test y.number ≡ b → parties_among (filter (λ atom. test atom.number) ys) n ≡ parties_among ys n →
        parties_among (cond b (y ∷ filter (λ atom. test atom.number) ys) (filter (λ atom. test atom.number) ys)) n ≡ parties_among (y ∷ ys) n
    go true e k = ap (λ rest. cond (y.number == n) y.parties rest) k
    go false e k = k ∙ sym (cond-false (y.number == n) y.parties (parties_among ys n) (ne_eqb y.number n (λ q. true≢false (sym h ∙ (ap test (sym q) ∙ e)))))
