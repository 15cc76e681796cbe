-- When a search finds nothing, and where what it finds stands.
use Rattle.std.proofs.Common.{◌≡◌, ℕ, zero, suc, ◌+◌, ◌<◌, ◌≤◌, Bool, true, false, nat_lt, List, [], ◌∷◌, length, take, get_or, Option, Some, None, slice_get, inl, inr, ⊎_elim, refl, sym, ap, subst, ◌∙◌, arith, lt-ltb}
use Rattle.std.proofs.lemmas.Bool.{cases_eq, cases_lt}
use Rattle.std.proofs.lemmas.Bool.Decides.{nat_tests}
use Rattle.std.proofs.lemmas.List.Sums.{fails_before_first}
use Rattle.std.proofs.lemmas.List.{get_or-take, length-take-le, get_or_default}
use Rattle.std.proofs.lemmas.List.Elements.{All-nil, All-cons, All-head, All-tail}
use Rattle.std.proofs.lemmas.List.Quantifiers.{position-Some}
use Rattle.std.proofs.lemmas.Option.{none-some, same_Some, slice_get-get_or, get_or_from_slice_get}
use Rattle.std.specs.List.{All, AllPairs, position, position_or_len, find, range_with_len}
use Rattle.std.specs.Option.{option_or}
use Rattle.nego_base.specs.Firsts.{first_among, first_numbered}
use Rattle.nego_base.proofs.Cases.{chosen}
use Rattle.nego_base.proofs.OptionLaws.{or_none, or_some, none_or_none}

-- ---- nothing is found

-- nothing is given of all items
pub among_none : {A B : Type 0} (f : A → Option B) (xs : List A) → first_among f xs ≡ None → All (λ x. f x ≡ None) xs
unfolding first_among
among_none f [] h = All-nil (λ x. f x ≡ None)
among_none f (x ∷ xs) h = let k = or_none (f x) (first_among f xs) h in All-cons (λ y. f y ≡ None) x xs k.0 (among_none f xs k.1)

pub none_among : {A B : Type 0} (f : A → Option B) (xs : List A) → All (λ x. f x ≡ None) xs → first_among f xs ≡ None
unfolding first_among
none_among f [] h = refl
none_among f (x ∷ xs) h = none_or_none (f x) (first_among f xs) (All-head (λ y. f y ≡ None) x xs h) (none_among f xs (All-tail (λ y. f y ≡ None) x xs h))

-- what each item has to which nothing is given, whatever its number
pub numbered_none : {A B : Type 0} (f : ℕ → A → Option B) (P : A → Type 0) → ((n : ℕ) (x : A) → f n x ≡ None → P x) → (n : ℕ) (xs : List A) → first_numbered f n xs ≡ None → All P xs
unfolding first_numbered
numbered_none f P each n [] h = All-nil P
numbered_none f P each n (x ∷ xs) h = let k = or_none (f n x) (first_numbered f (n + 1) xs) h in All-cons P x xs (each n x k.0) (numbered_none f P each (n + 1) xs k.1)

-- nothing is given of items that all have this, whatever their numbers
pub none_numbered : {A B : Type 0} (f : ℕ → A → Option B) (P : A → Type 0) → ((n : ℕ) (x : A) → P x → f n x ≡ None) → (n : ℕ) (xs : List A) → All P xs → first_numbered f n xs ≡ None
unfolding first_numbered
none_numbered f P each n [] h = refl
none_numbered f P each n (x ∷ xs) h = none_or_none (f n x) (first_numbered f (n + 1) xs) (each n x (All-head P x xs h)) (none_numbered f P each (n + 1) xs (All-tail P x xs h))

-- what is given of the item at a place
numbered_at : {A B : Type 0} (f : ℕ → A → Option B) (n : ℕ) (xs : List A) → first_numbered f n xs ≡ None → (i : ℕ) (d : A) → i < length xs → f (n + i) (get_or xs i d) ≡ None
unfolding first_numbered
numbered_at f n [] h i d l = absurd (omega (arith, l))
numbered_at f n (x ∷ xs) h zero d l =
    let same : n ≡ n + 0 = omega arith in
    subst (λ m. f m x ≡ None) same (or_none (f n x) (first_numbered f (n + 1) xs) h).0
numbered_at f n (x ∷ xs) h (suc i) d l =
    let same : n + 1 + i ≡ n + suc i = omega arith in
    subst (λ m. f m (get_or xs i d) ≡ None) same (numbered_at f (n + 1) xs (or_none (f n x) (first_numbered f (n + 1) xs) h).1 i d (omega (arith, l)))

-- nothing is given of the item at each place
none_at : {A B : Type 0} (f : ℕ → A → Option B) (n : ℕ) (xs : List A) → ((i : ℕ) (d : A) → i < length xs → f (n + i) (get_or xs i d) ≡ None) → first_numbered f n xs ≡ None
unfolding first_numbered
none_at f n [] h = refl
none_at f n (x ∷ xs) h =
    let here : n + 0 ≡ n = omega arith in
    none_or_none (f n x) (first_numbered f (n + 1) xs) (subst (λ m. f m x ≡ None) here (h 0 x (omega arith)))
    (none_at f (n + 1) xs (λ i d l. let there : n + suc i ≡ n + 1 + i = omega arith in subst (λ m. f m (get_or xs i d) ≡ None) there (h (suc i) d (omega (arith, l)))))

-- no item stands so to an earlier one
pub again_none : {A B : Type 0} (g : List A → A → Option B) (R : A → A → Type 0) → ((before : List A) (x : A) → g before x ≡ None → All (λ y. R y x) before) →
    (xs : List A) → first_numbered (λ i x. g (take i xs) x) 0 xs ≡ None → AllPairs R xs
again_none g R each xs h i j d before within =
    let same : 0 + j ≡ j = omega arith in
    let at : g (take j xs) (get_or xs j d) ≡ None = subst (λ m. g (take m xs) (get_or xs j d) ≡ None) same (numbered_at (λ k x. g (take k xs) x) 0 xs h j d within) in
    let long : length (take j xs) ≡ j = length-take-le j xs (omega (arith, within)) in
    subst (λ y. R y (get_or xs j d)) (get_or-take j xs i d before) (each (take j xs) (get_or xs j d) at i d (omega (arith, long, before)))

-- nothing is given of items that all have this, and of which each stands so to each later one
pub none_again : {A B : Type 0} (g : List A → A → Option B) (R : A → A → Type 0) (P : A → Type 0) → ((before : List A) (x : A) → All (λ y. R y x) before → P x → g before x ≡ None) →
    (xs : List A) → AllPairs R xs → All P xs → first_numbered (λ i x. g (take i xs) x) 0 xs ≡ None
none_again g R P each xs pairs all = none_at (λ i x. g (take i xs) x) 0 xs (λ j d within.
    let same : j ≡ 0 + j = omega arith in
    let long : length (take j xs) ≡ j = length-take-le j xs (omega (arith, within)) in
    subst (λ m. g (take m xs) (get_or xs j d) ≡ None) same (each (take j xs) (get_or xs j d) (λ i e before.
    let below : i < j = omega (arith, long, before) in
    subst (λ y. R y (get_or xs j d)) (sym (get_or-take j xs i e below)) (subst (λ x. R (get_or xs i e) x) (get_or_default xs j e d within) (pairs i j e below within)))
    (all j d within)))

-- ---- something is found

-- the first item of which something is given, where items are numbered from n on
record FoundFrom {A B : Type 0} (f : ℕ → A → Option B) (n : ℕ) (xs : List A) (y : B) : Type 0 where
  pub place : ℕ
  pub item : A
  pub at : slice_get xs place ≡ Some item
  pub gives : f (n + place) item ≡ Some y
  pub before : first_numbered f n (take place xs) ≡ None

numbered_from : {A B : Type 0} (f : ℕ → A → Option B) (n : ℕ) (xs : List A) (y : B) → first_numbered f n xs ≡ Some y → FoundFrom f n xs y
unfolding first_numbered
numbered_from f n [] y h = absurd (none-some y h)
numbered_from f n (x ∷ xs) y h =
    let here : n ≡ n + 0 = omega arith in
    ⊎_elim
    (λ e. record { place = 0; item = x; at = refl; gives = subst (λ m. f m x ≡ Some y) here e; before = refl })
    (λ e.
    let r = numbered_from f (n + 1) xs y e.1 in
    let there : n + 1 + r.place ≡ n + suc r.place = omega arith in
    record {
      place = suc r.place;
      item = r.item;
      at = r.at;
      gives = subst (λ m. f m r.item ≡ Some y) there r.gives;
      before = none_or_none (f n x) (first_numbered f (n + 1) (take r.place xs)) e.0 r.before;
    })
    (or_some (f n x) (first_numbered f (n + 1) xs) y h)

-- the same, where they are numbered from 0 on
pub record Found {A B : Type 0} (f : ℕ → A → Option B) (xs : List A) (y : B) : Type 0 where
  pub place : ℕ
  pub item : A
  pub at : slice_get xs place ≡ Some item
  pub gives : f place item ≡ Some y
  pub before : first_numbered f 0 (take place xs) ≡ None

pub numbered_some : {A B : Type 0} (f : ℕ → A → Option B) (xs : List A) (y : B) → first_numbered f 0 xs ≡ Some y → Found f xs y
numbered_some f xs y h =
    let r = numbered_from f 0 xs y h in
    let here : 0 + r.place ≡ r.place = omega arith in
    record { place = r.place; item = r.item; at = r.at; gives = subst (λ m. f m r.item ≡ Some y) here r.gives; before = r.before }

-- numbers may be left out
among_numbered : {A B : Type 0} (f : A → Option B) (n : ℕ) (xs : List A) → first_numbered (λ i x. f x) n xs ≡ first_among f xs
unfolding first_among first_numbered
among_numbered f n [] = refl
among_numbered f n (x ∷ xs) = ap (option_or (f x)) (among_numbered f (n + 1) xs)

pub among_some : {A B : Type 0} (f : A → Option B) (xs : List A) (y : B) → first_among f xs ≡ Some y → Found (λ i x. f x) xs y
among_some f xs y h = numbered_some (λ i x. f x) xs y (among_numbered f 0 xs ∙ h)

-- the item at the first place that passes
pub record Passing {A : Type 0} (test : A → Bool) (xs : List A) (i : ℕ) : Type 0 where
  pub item : A
  pub at : slice_get xs i ≡ Some item
  pub passes : test item ≡ true
  pub before : (k : ℕ) (other : A) → slice_get xs k ≡ Some other → k < i → test other ≡ false

pub first_some : {A : Type 0} (test : A → Bool) (xs : List A) (i : ℕ) → position test xs ≡ Some i → Passing test xs i
first_some test [] i h = absurd (none-some i h)
first_some test (x ∷ xs) i h =
    let r = position-Some test (x ∷ xs) i x h in
    record {
      item = get_or (x ∷ xs) i x;
      at = slice_get-get_or (x ∷ xs) i x r.0;
      passes = r.1;
      before = λ k other at l. subst (λ z. test z ≡ false) (get_or_from_slice_get (x ∷ xs) k other x at) (r.2 k l);
    }

-- ---- places

-- the number of items where each fails
past_all : {A : Type 0} (p : A → Bool) (xs : List A) → All (λ x. p x ≡ false) xs → position_or_len p xs ≡ length xs
past_all p [] h = refl
past_all p (x ∷ xs) h =
    let k = past_all p xs (All-tail (λ y. p y ≡ false) x xs h) in
    rw (All-head (λ y. p y ≡ false) x xs h) (omega (arith, k))

below_itself : (n : ℕ) → nat_lt n n ≡ false
below_itself n = grind (arith, nat_tests)

-- no place where each item fails
pub none_first : {A : Type 0} (p : A → Bool) (xs : List A) → All (λ x. p x ≡ false) xs → position p xs ≡ None
none_first p xs h = rw (past_all p xs h, below_itself (length xs)) refl

-- and the way back
pub position_none : {A : Type 0} (p : A → Bool) (xs : List A) → position p xs ≡ None → All (λ x. p x ≡ false) xs
position_none p xs e k d h = elim (cases_lt (position_or_len p xs) (length xs)) [
  | inl found ↦ let t = lt-ltb (position_or_len p xs) (length xs) found in absurd (let q = rw t at e in cc)
  | inr past ↦ fails_before_first p xs k d (omega arith)
]

-- ---- ranges

-- the first number of a range that passes a test
pub first_in_range : (test : ℕ → Bool) (k n d : ℕ) → k ≤ d → d < k + n → ((e : ℕ) → k ≤ e → e < d → test e ≡ false) → test d ≡ true → find test (range_with_len k n) ≡ Some d
first_in_range test k zero d low high before h = absurd (omega (arith, low, high))
first_in_range test k (suc n) d low high before h = elim (cases_eq k d) [
  | inl is ↦ rw (ap test is ∙ h) (ap (λ m. Some m) is)
  | inr other ↦ rw (before k (omega arith) (omega (arith, low, other))) (first_in_range test (k + 1) n d (omega (arith, low, other)) (omega (arith, high)) (λ e l m. before e (omega (arith, l)) m) h)
]

-- no number of a range passes a test
pub none_in_range : (test : ℕ → Bool) (k n : ℕ) → ((e : ℕ) → k ≤ e → e < k + n → test e ≡ false) → find test (range_with_len k n) ≡ None
none_in_range test k zero h = refl
none_in_range test k (suc n) h = rw (h k (omega arith) (omega arith)) (none_in_range test (k + 1) n (λ e l m. h e (omega (arith, l)) (omega (arith, m))))

-- each number of a range fails where none is found
pub none_found : (test : ℕ → Bool) (k n : ℕ) → find test (range_with_len k n) ≡ None → (e : ℕ) → k ≤ e → e < k + n → test e ≡ false
none_found test k zero h e low high = absurd (omega (arith, low, high))
none_found test k (suc n) h e low high = elim (chosen (test k) (Some k) (find test (range_with_len (k + 1) n)) None h) [
  | inl here ↦ absurd (none-some k (sym here.1))
  | inr later ↦ elim (cases_eq e k) [
    | inl is ↦ subst (λ m. test m ≡ false) (sym is) later.0
    | inr other ↦ none_found test (k + 1) n later.1 e (omega (arith, low, other)) (omega (arith, high))
  ]
]

-- what is found in a range
pub found_in_range : (test : ℕ → Bool) (k n d : ℕ) → find test (range_with_len k n) ≡ Some d → (k ≤ d) × (d < k + n) × (test d ≡ true) × ((e : ℕ) → k ≤ e → e < d → test e ≡ false)
found_in_range test k zero d h = absurd (none-some d h)
found_in_range test k (suc n) d h = elim (chosen (test k) (Some k) (find test (range_with_len (k + 1) n)) (Some d) h) [
  | inl here ↦
      let is : k ≡ d = same_Some k d here.1 in
      (omega (arith, is), omega (arith, is), subst (λ m. test m ≡ true) is here.0, λ e l m. absurd (omega (arith, is, l, m)))
  | inr later ↦
      let rest = found_in_range test (k + 1) n d later.1 in (
        omega (arith, rest.0),
        omega (arith, rest.1),
        rest.2,
        λ e l m. elim (cases_eq e k) [ inl is ↦ subst (λ i. test i ≡ false) (sym is) later.0 | inr other ↦ rest.3 e (omega (arith, l, other)) m ],
      )
]
