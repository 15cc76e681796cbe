-- What a test finds in a list, and the item at a place of a list in two parts.
use Rattle.std.proofs.Common.{◌≡◌, ⊎_elim, ℕ, zero, suc, Bool, true, false, cond, List, [], ◌∷◌, ◌++◌, length, slice_get, Option, Some, None, IsTrue, refl, sym, subst, ap, ap₂, ◌∙◌, arith, eqb-true}
use Rattle.std.proofs.lemmas.Bool.{or_cases, or_parts, cond-true, cond-false, false≢true}
use Rattle.std.proofs.lemmas.Option.{none-some, same_Some}
use Rattle.std.proofs.lemmas.List.Elements.{All-nil, All-cons, All-head, All-tail}
use Rattle.std.specs.List.{All, filter, find, list_any}
use Rattle.nego_expr.specs.Use.{same_target}

-- an agent's target that is this atom by the test is this atom
pub target_is : (target : Option ℕ) (n : ℕ) → IsTrue (same_target target (Some n)) → target ≡ Some n
target_is None n h = absurd (false≢true h)
target_is (Some m) n h = ap Some (eqb-true m n h)

-- ---- tests

-- an item that passes stands at a place
pub some_any : {A : Type 0} (p : A → Bool) (xs : List A) → list_any p xs ≡ true → (k : ℕ) × (x : A) × (slice_get xs k ≡ Some x) × (p x ≡ true)
some_any p [] h = absurd (false≢true h)
some_any p (x ∷ xs) h = ⊎_elim (λ e. (0, x, refl, e)) (λ m. let q = some_any p xs m in (suc q.0, q.1, q.2, q.3)) (or_cases (p x) (list_any p xs) h)

-- where none is found, none passes
pub none_any : {A : Type 0} (p : A → Bool) (xs : List A) → list_any p xs ≡ false → All (λ x. p x ≡ false) xs
none_any p [] h = All-nil (λ x. p x ≡ false)
none_any p (x ∷ xs) h = let k = or_parts (p x) (list_any p xs) h in All-cons (λ y. p y ≡ false) x xs k.0 (none_any p xs k.1)

-- where none passes a test, none is left
pub filter-none : {A : Type 0} (test : A → Bool) (zs : List A) → All (λ z. test z ≡ false) zs → filter test zs ≡ []
filter-none test [] h = refl
filter-none test (z ∷ zs) h =
    cond-false (test z) (z ∷ filter test zs) (filter test zs) (All-head (λ w. test w ≡ false) z zs h) ∙ filter-none test zs (All-tail (λ w. test w ≡ false) z zs h)

-- where one passes a test and is found, it is the only one
pub only_passing : {A : Type 0} (test : A → Bool) (zs : List A) (x : A) → find test zs ≡ Some x → length (filter test zs) ≡ 1 → filter test zs ≡ x ∷ []
only_passing test [] x h l = absurd (none-some x h)
only_passing {A = A} test (z ∷ zs) x h l = go (test z) refl h l (only_passing test zs x)
  where
    single : (ys : List A) → suc (length ys) ≡ 1 → ys ≡ []
    single [] e = refl
    single (y ∷ ys) e = absurd (let no_more : ⊥ = omega (arith, e) in no_more)

    go : (b : Bool) → test z ≡ b → find test (z ∷ zs) ≡ Some x → length (cond b (z ∷ filter test zs) (filter test zs)) ≡ 1 → (find test zs ≡ Some x → length (filter test zs) ≡ 1 → filter test zs ≡ x ∷ []) →
        cond b (z ∷ filter test zs) (filter test zs) ≡ x ∷ []
    go true e f m more = ap₂ ◌∷◌ (same_Some z x (sym (cond-true (test z) (Some z) (find test zs) e) ∙ f)) (single (filter test zs) m)
    go false e f m more = more (sym (cond-false (test z) (Some z) (find test zs) e) ∙ f) m

-- what holds of each holds of the one that is found
pub find_all : {A : Type 0} (P : A → Type 0) (test : A → Bool) (zs : List A) (x : A) → find test zs ≡ Some x → All P zs → P x
find_all P test [] x h k = absurd (none-some x h)
find_all {A = A} P test (z ∷ zs) x h k = go (test z) h (find_all P test zs x)
  where
    go : (b : Bool) → cond b (Some z) (find test zs) ≡ Some x → (find test zs ≡ Some x → All P zs → P x) → P x
    go true f more = subst P (same_Some z x f) (All-head P z zs k)
    go false f more = more f (All-tail P z zs k)

-- ---- places

-- an item of two lists, one after the other, is one of the first
pub before_append : {A : Type 0} (xs more : List A) (i : ℕ) (x : A) → slice_get xs i ≡ Some x → slice_get (xs ++ more) i ≡ Some x
before_append [] more i x h = absurd (none-some x h)
before_append (y ∷ ys) more zero x h = h
before_append (y ∷ ys) more (suc i) x h = before_append ys more i x h

-- the item between two lists
pub at_between : {A : Type 0} (front rest : List A) (y : A) → slice_get (front ++ y ∷ rest) (length front) ≡ Some y
at_between [] rest y = refl
at_between (z ∷ front) rest y = at_between front rest y
