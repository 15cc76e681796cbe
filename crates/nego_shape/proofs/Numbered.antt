-- Lists of what items give: their heads, when they are empty, and the pairs of what is given.
use Rattle.std.proofs.Common.{◌≡◌, ℕ, zero, suc, ◌+◌, ◌<◌, List, [], ◌∷◌, ◌++◌, length, map, drop, get_or, Option, Some, None, slice_get, refl, sym, subst, ap, ◌∙◌, arith}
use Rattle.std.proofs.lemmas.List.Elements.{All-nil, All-cons, All-head, All-tail, All-append}
use Rattle.std.specs.List.{All, AllPairs, flat_map}
use Rattle.std.specs.Option.{option_or, option_map}
use Rattle.nego_base.specs.Firsts.{first_among, first_numbered}
use Rattle.nego_base.proofs.ListLaws.{cut_at}
use Rattle.nego_base.proofs.PairLaws.{AllPairs-nil, AllPairs-append, AllPairs-head, AllPairs-tail}
use Rattle.nego_reader.specs.declared.parsed.PAtom.{PAtom}
use Rattle.nego_reader.specs.declared.parsed.POut.{POut}
use Rattle.nego_shape.specs.Faults.{numbered, each_out}

-- the first item
abbrev pub head : {A : Type 0} → List A → Option A
head xs = slice_get xs 0

-- ---- heads

pub head-append : {A : Type 0} (xs ys : List A) → head (xs ++ ys) ≡ option_or (head xs) (head ys)
head-append [] ys = refl
head-append (x ∷ xs) ys = refl

pub head-map : {A B : Type 0} (f : A → B) (xs : List A) → head (map f xs) ≡ option_map f (head xs)
head-map f [] = refl
head-map f (x ∷ xs) = refl

pub head-none : {A : Type 0} (xs : List A) → head xs ≡ None → xs ≡ []
head-none [] h = refl
head-none (x ∷ xs) h = absurd cc

pub head-numbered : {A B : Type 0} (f : ℕ → A → List B) (n : ℕ) (xs : List A) → head (numbered f n xs) ≡ first_numbered (λ i x. head (f i x)) n xs
unfolding numbered first_numbered
head-numbered f n [] = refl
head-numbered f n (x ∷ xs) = head-append (f n x) (numbered f (n + 1) xs) ∙ ap (option_or (head (f n x))) (head-numbered f (n + 1) xs)

pub head-flat : {A B : Type 0} (f : A → List B) (xs : List A) → head (flat_map f xs) ≡ first_among (λ x. head (f x)) xs
unfolding first_among
head-flat f [] = refl
head-flat f (x ∷ xs) = head-append (f x) (flat_map f xs) ∙ ap (option_or (head (f x))) (head-flat f xs)

-- the head of two lists is that of the first, or where there is none, that of the second
pub head_front : {A : Type 0} (xs ys : List A) (y : A) → head xs ≡ Some y → head (xs ++ ys) ≡ Some y
head_front [] ys y h = absurd cc
head_front (x ∷ xs) ys y h = h

pub head_back : {A : Type 0} (xs ys : List A) → head xs ≡ None → head (xs ++ ys) ≡ head ys
head_back [] ys h = refl
head_back (x ∷ xs) ys h = absurd cc

-- what is found of the item at which a search stands is found of all
pub among_found : {A B : Type 0} (f : A → Option B) (xs : List A) (i : ℕ) (x : A) (y : B) (all : Option B) → i < length xs → x ≡ get_or xs i x → f x ≡ Some y → first_among f (drop i xs) ≡ all → Some y ≡ all
unfolding first_among
among_found f xs i x y all inside is found so_far = sym (ap (first_among f) (cut_at xs i x inside is) ∙ ap (λ o. option_or o (first_among f (drop (i + 1) xs))) found) ∙ so_far

-- ---- empty lists

pub empty_parts : {A : Type 0} (xs ys : List A) → xs ++ ys ≡ [] → (xs ≡ []) × (ys ≡ [])
empty_parts [] ys h = (refl, h)
empty_parts (x ∷ xs) ys h = absurd cc

pub empty_both : {A : Type 0} (xs ys : List A) → xs ≡ [] → ys ≡ [] → xs ++ ys ≡ []
empty_both xs ys h k = rw (h, k) refl

pub empty_map : {A B : Type 0} (f : A → B) (xs : List A) → map f xs ≡ [] → xs ≡ []
empty_map f [] h = refl
empty_map f (x ∷ xs) h = absurd cc

-- items of which nothing is given
pub clear-numbered : {A B : Type 0} (f : ℕ → A → List B) (P : A → Type 0) → ((n : ℕ) (x : A) → f n x ≡ [] → P x) → (n : ℕ) (xs : List A) → numbered f n xs ≡ [] → All P xs
unfolding numbered
clear-numbered f P each n [] h = All-nil P
clear-numbered f P each n (x ∷ xs) h = let two = empty_parts (f n x) (numbered f (n + 1) xs) h in All-cons P x xs (each n x two.0) (clear-numbered f P each (n + 1) xs two.1)

-- nothing is given of items that have this
pub empty-numbered : {A B : Type 0} (f : ℕ → A → List B) (P : A → Type 0) → ((n : ℕ) (x : A) → P x → f n x ≡ []) → (n : ℕ) (xs : List A) → All P xs → numbered f n xs ≡ []
unfolding numbered
empty-numbered f P each n [] h = refl
empty-numbered f P each n (x ∷ xs) h = empty_both (f n x) (numbered f (n + 1) xs) (each n x (All-head P x xs h)) (empty-numbered f P each (n + 1) xs (All-tail P x xs h))

-- nothing is given of the item at a place
pub clear-at : {A B : Type 0} (f : ℕ → A → List B) (n : ℕ) (xs : List A) → numbered f n xs ≡ [] → (i : ℕ) (d : A) → i < length xs → f (n + i) (get_or xs i d) ≡ []
unfolding numbered
clear-at f n [] h i d l = absurd (omega (arith, l))
clear-at f n (x ∷ xs) h zero d l = let same : n ≡ n + 0 = omega arith in subst (λ m. f m x ≡ []) same (empty_parts (f n x) (numbered f (n + 1) xs) h).0
clear-at f n (x ∷ xs) h (suc i) d l =
    let same : n + 1 + i ≡ n + suc i = omega arith in
    subst (λ m. f m (get_or xs i d) ≡ []) same (clear-at f (n + 1) xs (empty_parts (f n x) (numbered f (n + 1) xs) h).1 i d (omega (arith, l)))

-- nothing is given of any, where nothing is of the item at each place
pub empty-at : {A B : Type 0} (f : ℕ → A → List B) (n : ℕ) (xs : List A) → ((i : ℕ) (d : A) → i < length xs → f (n + i) (get_or xs i d) ≡ []) → numbered f n xs ≡ []
unfolding numbered
empty-at f n [] h = refl
empty-at f n (x ∷ xs) h =
    let here : n + 0 ≡ n = omega arith in
    empty_both (f n x) (numbered f (n + 1) xs) (subst (λ m. f m x ≡ []) here (h 0 x (omega arith)))
    (empty-at f (n + 1) xs (λ i d l. let there : n + suc i ≡ n + 1 + i = omega arith in subst (λ m. f m (get_or xs i d) ≡ []) there (h (suc i) d (omega (arith, l)))))

pub clear-flat : {A B : Type 0} (f : A → List B) (xs : List A) → flat_map f xs ≡ [] → All (λ x. f x ≡ []) xs
clear-flat f [] h = All-nil (λ x. f x ≡ [])
clear-flat f (x ∷ xs) h = let two = empty_parts (f x) (flat_map f xs) h in All-cons (λ y. f y ≡ []) x xs two.0 (clear-flat f xs two.1)

pub empty-flat : {A B : Type 0} (f : A → List B) (xs : List A) → All (λ x. f x ≡ []) xs → flat_map f xs ≡ []
empty-flat f [] h = refl
empty-flat f (x ∷ xs) h = empty_both (f x) (flat_map f xs) (All-head (λ y. f y ≡ []) x xs h) (empty-flat f xs (All-tail (λ y. f y ≡ []) x xs h))

-- ---- what all that is given has

pub All-numbered : {A B : Type 0} (Q : B → Type 0) (f : ℕ → A → List B) → ((n : ℕ) (x : A) → All Q (f n x)) → (n : ℕ) (xs : List A) → All Q (numbered f n xs)
unfolding numbered
All-numbered Q f each n [] = All-nil Q
All-numbered Q f each n (x ∷ xs) = All-append Q (f n x) (numbered f (n + 1) xs) (each n x) (All-numbered Q f each (n + 1) xs)

pub All-each_out : {B : Type 0} (Q : B → Type 0) (f : ℕ → ℕ → POut → List B) → ((n o : ℕ) (out : POut) → All Q (f n o out)) → (n o : ℕ) (atoms : List PAtom) → All Q (each_out f n o atoms)
unfolding each_out
All-each_out Q f each n o [] = All-nil Q
All-each_out Q f each n o (atom ∷ atoms) =
    All-append Q (numbered (f n) o atom.outs) (each_out f (n + 1) (o + length atom.outs) atoms) (All-numbered Q (f n) (each n) o atom.outs) (All-each_out Q f each (n + 1) (o + length atom.outs) atoms)

-- Pairs of what is given stand so, where those of one item do, and items stand so that what they give does: `Gives x b` says
-- that b may be given of x.
module _ {A B : Type 0} (R : B → B → Type 0) (S : A → A → Type 0) (Gives : A → B → Type 0) (apart : (x y : A) (b c : B) → S x y → Gives x b → Gives y c → R b c) where
  behind : (f : ℕ → A → List B) → ((n : ℕ) (x : A) → All (Gives x) (f n x)) → (x : A) (b : B) → Gives x b → (n : ℕ) (xs : List A) → All (S x) xs → All (R b) (numbered f n xs)
  unfolding numbered
  behind f each x b g n [] h = All-nil (R b)
  behind f each x b g n (y ∷ ys) h =
      All-append (R b) (f n y) (numbered f (n + 1) ys) (λ i d l. apart x y b (get_or (f n y) i d) (All-head (S x) y ys h) g (each n y i d l)) (behind f each x b g (n + 1) ys (All-tail (S x) y ys h))

  pub pairs-numbered : (f : ℕ → A → List B) → ((n : ℕ) (x : A) → All (Gives x) (f n x)) → ((n : ℕ) (x : A) → AllPairs R (f n x)) → (n : ℕ) (xs : List A) → AllPairs S xs → AllPairs R (numbered f n xs)
  unfolding numbered
  pairs-numbered f each inside n [] h = AllPairs-nil R
  pairs-numbered f each inside n (x ∷ xs) h =
      AllPairs-append R (f n x) (numbered f (n + 1) xs) (inside n x) (pairs-numbered f each inside (n + 1) xs (AllPairs-tail S x xs h))
      (λ i d l. behind f each x (get_or (f n x) i d) (each n x i d l) (n + 1) xs (AllPairs-head S x xs h))
