-- What the place of the first byte that passes a test says of the bytes before it.
use Rattle.std.proofs.Common.{◌≡◌, ℕ, ◌+◌, ◌<◌, ◌≤◌, Bool, true, false, Some, None, Option, inl, inr, List, ◌∷◌, ◌++◌, length, take, get_or, ltb, sym, ◌∙◌, ap, add-zero, suc, arith}
use Rattle.std.specs.List.{list_any, position, position_or_len}
use Rattle.std.proofs.lemmas.Bool.{cases_Bool, cases_lt, cond-true, cond-false, ltb-false, lt-ltb, le-ltb, false≢true, false_from_ne_true}
use Rattle.std.proofs.lemmas.List.{get_or-take, get_or_append_left, get_or-append-add, length-append, length-take-le}
use Rattle.std.proofs.lemmas.List.Elements.{All-from_get_or}
use Rattle.std.proofs.lemmas.List.Folds.{list_any_none, list_any_at}
use Rattle.std.proofs.lemmas.List.Quantifiers.{position-Some}
use Rattle.std.proofs.lemmas.List.Sums.{fails_before_first, passes_at_first, position_or_len_is}
use Rattle.memchr.specs.Find.{IsFirstByte}

module _ (test : ℕ → Bool) where
  -- The byte at this place is the first that passes.
  pub record IsFirst (bytes : List ℕ) (i : ℕ) : Type 0 where
    pub within : i < length bytes
    pub before : list_any test (take i bytes) ≡ false
    pub there : test (get_or bytes i 0) ≡ true

  pub first_place : (bytes : List ℕ) (i : ℕ) → position test bytes ≡ Some i → IsFirst bytes i
  first_place bytes i h =
      let place = position-Some test bytes i 0 h in
      let size : length (take i bytes) ≡ i = length-take-le i bytes (omega (arith, place.0)) in
      record {
        within = place.0;
        before = list_any_none test (take i bytes) (All-from_get_or (λ b. test b ≡ false) (take i bytes) 0
            (λ k below. let under : k < i = omega arith in ap test (get_or-take i bytes k 0 under) ∙ place.2 k under));
        there = place.1;
      }

  pub no_place : (bytes : List ℕ) → position test bytes ≡ None → list_any test bytes ≡ false
  no_place bytes h = elim (cases_Bool (ltb (position_or_len test bytes) (length bytes))) [
    | inl inside ↦ let e : ◌≡◌ {A = Option ℕ} (Some (position_or_len test bytes)) None = sym (cond-true _ _ _ inside) ∙ h in cc
    | inr past ↦
        let behind : length bytes ≤ position_or_len test bytes = ltb-false _ _ past in
        list_any_none test bytes (All-from_get_or (λ b. test b ≡ false) bytes 0 (λ k below. fails_before_first test bytes k 0 (omega arith)))
  ]

  -- the place behind bytes that fail the test, where one that passes follows
  pub place_behind : (front : List ℕ) (c : ℕ) (rest : List ℕ) → list_any test front ≡ false → test c ≡ true → position test (front ++ c ∷ rest) ≡ Some (length front)
  place_behind front c rest free there =
      let all = front ++ c ∷ rest in
      let size : length all ≡ length front + suc (length rest) = length-append front (c ∷ rest) in
      let at : position_or_len test all ≡ length front = position_or_len_is test all (length front) 0 (omega arith)
      (λ k below. ap test (get_or_append_left front (c ∷ rest) 0 k below) ∙ fails_at front k free below)
      (λ _. ap test (ap (λ k. get_or all k 0) (sym (add-zero (length front))) ∙ get_or-append-add front (c ∷ rest) 0 0) ∙ there) in
      cond-true _ _ _ (lt-ltb (position_or_len test all) (length all) (omega arith)) ∙ ap (λ n. Some n) at
    where
      fails_at : (bytes : List ℕ) (k : ℕ) → list_any test bytes ≡ false → k < length bytes → test (get_or bytes k 0) ≡ false
      fails_at bytes k free below = false_from_ne_true _ (λ there. false≢true (sym free ∙ list_any_at test bytes k 0 below there))

  -- the first byte's place that a search finds
  pub place_found : (bytes : List ℕ) (r : Option ℕ) → IsFirstByte test bytes r → r ≡ position test bytes
  place_found bytes None h = sym (cond-false _ _ _ (le-ltb (position_or_len test bytes) (length bytes) (elim (cases_lt (position_or_len test bytes) (length bytes)) [
    | inl inside ↦ absurd (h (position_or_len test bytes) (omega arith) inside (passes_at_first test bytes 0 inside))
    | inr past ↦ past
  ])))
  place_found bytes (Some k) h =
      let at : position_or_len test bytes ≡ k = position_or_len_is test bytes k 0 (omega (arith, h.0.high))
      (λ j below. false_from_ne_true _ (h.0.before j (omega arith) below))
      (λ _. h.1) in
      sym (cond-true _ _ _ (lt-ltb (position_or_len test bytes) (length bytes) (omega (arith, at, h.0.high))) ∙ ap (λ n. Some n) at)

  -- no place where no byte passes
  pub place_none : (bytes : List ℕ) → list_any test bytes ≡ false → position test bytes ≡ None
  place_none bytes free = elim (cases_lt (position_or_len test bytes) (length bytes)) [
    | inl inside ↦ absurd (false≢true (sym free ∙ list_any_at test bytes (position_or_len test bytes) 0 inside (passes_at_first test bytes 0 inside)))
    | inr past ↦ cond-false _ _ _ (le-ltb (position_or_len test bytes) (length bytes) past)
  ]
