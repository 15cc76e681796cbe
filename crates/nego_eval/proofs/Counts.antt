-- How many items of a list pass a test, when the list or the test changes.
use Rattle.std.proofs.Common.{◌≡◌, ℕ, zero, suc, ◌+◌, ◌<◌, ◌≤◌, Bool, true, false, cond, List, [], ◌∷◌, length, set, get_or, inl, inr, subst, ap, ◌∙◌, arith}
use Rattle.std.specs.List.{count_by}
use Rattle.std.proofs.lemmas.Bool.{cases_Bool, false≢true}
use Rattle.std.proofs.lemmas.List.Sums.{sum_by-cons}
use Rattle.nego_base.specs.Members.{is_in}
use Rattle.nego_base.proofs.Members.{is_in-cases}

-- an item more that passes the test
counted : {A : Type 0} (p : A → Bool) (x : A) (xs : List A) → p x ≡ true → count_by p (x ∷ xs) ≡ 1 + count_by p xs
counted p x xs h = sum_by-cons (λ y. cond (p y) 1 0) x xs ∙ ap (λ b. cond b 1 0 + count_by p xs) h

-- an item more that doesn't
passed_over : {A : Type 0} (p : A → Bool) (x : A) (xs : List A) → p x ≡ false → count_by p (x ∷ xs) ≡ 0 + count_by p xs
passed_over p x xs h = sum_by-cons (λ y. cond (p y) 1 0) x xs ∙ ap (λ b. cond b 1 0 + count_by p xs) h

-- an item that passes the test is replaced by one that doesn't
pub count_by-set_fewer : {A : Type 0} (p : A → Bool) (xs : List A) (i : ℕ) (y d : A) → i < length xs → p (get_or xs i d) ≡ true → p y ≡ false → 1 + count_by p (set xs i y) ≡ count_by p xs
count_by-set_fewer p [] i y d h t f = absurd (omega arith)
count_by-set_fewer p (x ∷ xs) zero y d h t f = let a = counted p x xs t in let b = passed_over p y xs f in omega (arith, a, b)
count_by-set_fewer p (x ∷ xs) (suc i) y d h t f =
    let rest = count_by-set_fewer p xs i y d (omega (arith, h)) t f in
    elim (cases_Bool (p x)) [
      | inl e ↦ let a = counted p x (set xs i y) e in let b = counted p x xs e in omega (arith, rest, a, b)
      | inr e ↦ let a = passed_over p x (set xs i y) e in let b = passed_over p x xs e in omega (arith, rest, a, b)
    ]

-- a narrower test is passed by at most as many
pub count_by-narrower : (p q : ℕ → Bool) (xs : List ℕ) → ((x : ℕ) → q x ≡ true → p x ≡ true) → count_by q xs ≤ count_by p xs
count_by-narrower p q [] h = omega arith
count_by-narrower p q (x ∷ xs) h =
    let rest = count_by-narrower p q xs h in
    elim (cases_Bool (q x)) [
      | inl e ↦ let a = counted q x xs e in let b = counted p x xs (h x e) in omega (arith, rest, a, b)
      | inr e ↦
          let a = passed_over q x xs e in
          elim (cases_Bool (p x)) [ inl f ↦ let b = counted p x xs f in omega (arith, rest, a, b) | inr f ↦ let b = passed_over p x xs f in omega (arith, rest, a, b) ]
    ]

-- a narrower test that some item no longer passes is passed by fewer
pub count_by-fewer : (p q : ℕ → Bool) (xs : List ℕ) (y : ℕ) → ((x : ℕ) → q x ≡ true → p x ≡ true) → is_in y xs ≡ true → p y ≡ true → q y ≡ false → count_by q xs < count_by p xs
count_by-fewer p q [] y h m t f = absurd (false≢true m)
count_by-fewer p q (x ∷ xs) y h m t f = elim (is_in-cases y x xs m) [
  | inl e ↦
      let rest = count_by-narrower p q xs h in
      let a = counted p x xs (subst (λ z. p z ≡ true) e t) in
      let b = passed_over q x xs (subst (λ z. q z ≡ false) e f) in
      omega (arith, rest, a, b)
  | inr later ↦
      let rest = count_by-fewer p q xs y h later t f in
      elim (cases_Bool (q x)) [
        | inl e ↦ let a = counted q x xs e in let b = counted p x xs (h x e) in omega (arith, rest, a, b)
        | inr e ↦
            let a = passed_over q x xs e in
            elim (cases_Bool (p x)) [ inl k ↦ let b = counted p x xs k in omega (arith, rest, a, b) | inr k ↦ let b = passed_over p x xs k in omega (arith, rest, a, b) ]
      ]
]
