-- Faults of numbered items, of which each has one where a test holds.
use Rattle.std.proofs.Common.{◌≡◌, inl, ℕ, zero, suc, ◌+◌, ◌<◌, ◌≤◌, ◌==◌, Bool, true, false, List, [], ◌∷◌, ◌++◌, length, get_or, Some, slice_get, refl, sym, subst, ap, ◌∙◌, arith, eq-eqb}
use Rattle.std.proofs.lemmas.Bool.{ne_eqb}
use Rattle.std.proofs.lemmas.List.{append_assoc}
use Rattle.std.proofs.lemmas.List.Elements.{All-nil, All-cons}
use Rattle.std.proofs.lemmas.Option.{slice_get_past, slice_get_within, get_or_from_slice_get}
use Rattle.std.specs.List.{All, AllPairs, flat_map}
use Rattle.std.specs.Option.{option_map, option_or}
use Rattle.nego_base.proofs.ListLaws.{none_at}
use Rattle.nego_base.proofs.OptionLaws.{map_none}
use Rattle.nego_base.proofs.PairLaws.{AllPairs-nil, AllPairs-cons}
use Rattle.nego_reader.specs.declared.parsed.PAtom.{PAtom}
use Rattle.nego_reader.specs.declared.parsed.POut.{POut}
use Rattle.nego_shape.specs.declared.fault.ShapeKind.{ShapeKind}
use Rattle.nego_shape.specs.Faults.{Spot, spot, spot_if, numbered, each_out, IsAhead}
use Rattle.nego_shape.proofs.Numbered.{head, head-append, head-none, pairs-numbered}

-- ---- one test

pub no_spot : (test : Bool) (line : ℕ) (kind : ShapeKind) → test ≡ false → spot_if test line kind ≡ []
no_spot test line kind h = rw h refl

pub one_spot : (test : Bool) (line : ℕ) (kind : ShapeKind) → test ≡ true → spot_if test line kind ≡ spot line 0 kind ∷ []
one_spot test line kind h = rw h refl

pub fails : (test : Bool) (line : ℕ) (kind : ShapeKind) → spot_if test line kind ≡ [] → test ≡ false
fails true line kind h = absurd cc
fails false line kind h = refl

-- ---- the item at a place

module _ {A : Type 0} (line : A → ℕ) (kind : ShapeKind) (k : ℕ) where
  -- the fault of the item of number k
  abbrev pub past : ℕ → A → List Spot
  past i x = spot_if (i == k) (line x) kind

  -- items behind it have none
  none_behind : (n : ℕ) (xs : List A) → k < n → numbered past n xs ≡ []
  unfolding numbered
  none_behind n [] h = refl
  none_behind n (x ∷ xs) h = rw (no_spot (n == k) (line x) kind (ne_eqb n k (λ e. omega (arith, h, e)))) (none_behind (n + 1) xs (omega (arith, h)))

  past_from : (n j : ℕ) (xs : List A) → n + j ≡ k → head (numbered past n xs) ≡ option_map (λ x. spot (line x) 0 kind) (slice_get xs j)
  unfolding numbered
  past_from n j [] h = refl
  past_from n zero (x ∷ xs) h = let here : n ≡ k = omega (arith, h) in rw (one_spot (n == k) (line x) kind (eq-eqb n k here)) refl
  past_from n (suc j) (x ∷ xs) h =
      rw (no_spot (n == k) (line x) kind (ne_eqb n k (λ e. omega (arith, h, e)))) (past_from (n + 1) j xs (omega (arith, h)))

  -- the fault is that of the item at this place
  pub head-past : (xs : List A) → head (numbered past 0 xs) ≡ option_map (λ x. spot (line x) 0 kind) (slice_get xs k)
  head-past xs = past_from 0 k xs (omega arith)

  -- and there is none where there is no such item
  pub few-past : (xs : List A) → numbered past 0 xs ≡ [] → length xs ≤ k
  few-past xs h = none_at xs k (map_none (λ x. spot (line x) 0 kind) (slice_get xs k) (sym (head-past xs) ∙ ap head h))

  pub past-few : (xs : List A) → length xs ≤ k → numbered past 0 xs ≡ []
  past-few xs h = head-none (numbered past 0 xs) (head-past xs ∙ ap (option_map (λ x. spot (line x) 0 kind)) (slice_get_past xs k h))

-- ---- outcomes by their own numbers

numbered-append : {A B : Type 0} (f : ℕ → A → List B) (n : ℕ) (xs ys : List A) → numbered f n (xs ++ ys) ≡ numbered f n xs ++ numbered f (n + length xs) ys
unfolding numbered
numbered-append f n [] ys = let here : n ≡ n + 0 = omega arith in ap (λ m. numbered f m ys) here
numbered-append f n (x ∷ xs) ys =
    let there : n + 1 + length xs ≡ n + suc (length xs) = omega arith in
    ap (λ zs. f n x ++ zs) (numbered-append f (n + 1) xs ys ∙ ap (λ m. numbered f (n + 1) xs ++ numbered f m ys) there)
    ∙ sym (append_assoc (f n x) (numbered f (n + 1) xs) (numbered f (n + suc (length xs)) ys))

pub each_out-flat : {B : Type 0} (f : ℕ → POut → List B) (n o : ℕ) (atoms : List PAtom) → each_out (λ n. f) n o atoms ≡ numbered f o (flat_map (λ atom. atom.outs) atoms)
unfolding each_out numbered
each_out-flat f n o [] = refl
each_out-flat f n o (atom ∷ atoms) =
    ap (λ ys. numbered f o atom.outs ++ ys) (each_out-flat f (n + 1) (o + length atom.outs) atoms)
    ∙ sym (numbered-append f o atom.outs (flat_map (λ (other : PAtom). other.outs) atoms))

-- ---- items that pass a test

module _ {A : Type 0} (test : ℕ → A → Bool) (line : A → ℕ) (kind : ℕ → ShapeKind) where
  -- the fault of an item that passes
  abbrev pub passing : ℕ → A → List Spot
  passing n x = spot_if (test n x) (line x) (kind n)

  on_line : (b : Bool) (n : ℕ) (x : A) → All (λ s. line x ≡ s.fault.line) (spot_if b (line x) (kind n))
  on_line true n x = All-cons (λ s. line x ≡ s.fault.line) (spot (line x) 0 (kind n)) [] refl (All-nil (λ s. line x ≡ s.fault.line))
  on_line false n x = All-nil (λ s. line x ≡ s.fault.line)

  pub alone : (b : Bool) (n : ℕ) (x : A) → AllPairs IsAhead (spot_if b (line x) (kind n))
  alone true n x = AllPairs-cons IsAhead (spot (line x) 0 (kind n)) [] (All-nil (IsAhead (spot (line x) 0 (kind n)))) (AllPairs-nil IsAhead)
  alone false n x = AllPairs-nil IsAhead

  -- their faults rise where their lines do
  pub rises-passing : (xs : List A) → AllPairs (λ x y. line x < line y) xs → AllPairs IsAhead (numbered passing 0 xs)
  rises-passing xs rises =
      pairs-numbered IsAhead (λ x y. line x < line y) (λ x s. line x ≡ s.fault.line)
      (λ x y b c less is is'. inl (subst (λ n. n < c.fault.line) is (subst (λ n. line x < n) is' less)))
      passing (λ n x. on_line (test n x) n x) (λ n x. alone (test n x) n x) 0 xs rises

  first_from : (n : ℕ) (xs : List A) (i : ℕ) (d : A) → i < length xs → ((k : ℕ) → k < i → test (n + k) (get_or xs k d) ≡ false) → test (n + i) (get_or xs i d) ≡ true → head (numbered passing n xs) ≡ Some (spot (line (get_or xs i d)) 0 (kind (n + i)))
  unfolding numbered
  first_from n [] i d l before h = absurd (omega (arith, l))
  first_from n (x ∷ xs) zero d l before h =
      let here : n + 0 ≡ n = omega arith in
      head-append (passing n x) (numbered passing (n + 1) xs)
      ∙ (ap (λ spots. option_or (head spots) (head (numbered passing (n + 1) xs))) (one_spot (test n x) (line x) (kind n) (subst (λ m. test m x ≡ true) here h)) ∙ ap (λ m. Some (spot (line x) 0 (kind m))) (sym here))
  first_from n (x ∷ xs) (suc i) d l before h =
      let here : n + 0 ≡ n = omega arith in
      let there : n + suc i ≡ n + 1 + i = omega arith in
      head-append (passing n x) (numbered passing (n + 1) xs)
      ∙ (ap (λ spots. option_or (head spots) (head (numbered passing (n + 1) xs))) (no_spot (test n x) (line x) (kind n) (subst (λ m. test m x ≡ false) here (before 0 (omega arith))))
      ∙ (first_from (n + 1) xs i d (omega (arith, l)) (λ k m. let behind : n + suc k ≡ n + 1 + k = omega arith in subst (λ m. test m (get_or xs k d) ≡ false) behind (before (suc k) (omega (arith, m)))) (subst (λ m. test m (get_or xs i d) ≡ true) there h)
      ∙ ap (λ m. Some (spot (line (get_or xs i d)) 0 (kind m))) (sym there)))

  -- the first that passes has the first fault
  pub first-passing : (xs : List A) (i : ℕ) (x : A) → slice_get xs i ≡ Some x → ((k : ℕ) → k < i → test k (get_or xs k x) ≡ false) → test i x ≡ true → head (numbered passing 0 xs) ≡ Some (spot (line x) 0 (kind i))
  first-passing xs i x at before h =
      let item : get_or xs i x ≡ x = get_or_from_slice_get xs i x x at in
      let zero_i : 0 + i ≡ i = omega arith in
      first_from 0 xs i x (slice_get_within xs i x at) (λ k l. let zero_k : k ≡ 0 + k = omega arith in subst (λ m. test m (get_or xs k x) ≡ false) zero_k (before k l)) (subst (λ m. test m (get_or xs i x) ≡ true) (sym zero_i) (subst (λ y. test i y ≡ true) (sym item) h))
      ∙ (ap (λ m. Some (spot (line (get_or xs i x)) 0 (kind m))) zero_i ∙ ap (λ y. Some (spot (line y) 0 (kind i))) item)
