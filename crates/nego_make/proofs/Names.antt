-- The names that are made: they differ, and each stands at the place that is its number.
use Rattle.std.proofs.Common.{◌≡◌, ◌≢◌, ◌∙◌, ℕ, zero, suc, ◌+◌, ◌<◌, ◌≤◌, ◌==◌, ◌%◌, true, cond, List, [], ◌∷◌, length, map, drop, decimal, slice_get, Some, ap, sym, subst, refl, arith}
use Rattle.std.proofs.lemmas.Bool.{cond_both}
use Rattle.std.proofs.lemmas.Fmt.{decimal_injective}
use Rattle.std.proofs.lemmas.Option.{slice_get-map}
use Rattle.std.proofs.lemmas.List.Elements.{All-nil, All-cons, All-map, All-head, All-tail}
use Rattle.std.proofs.lemmas.List.FromFn.{length-map-range_with_len}
use Rattle.std.specs.List.{All, filter, range_with_len}
use Rattle.std.specs.Option.{option_map, option_map_or}
use Rattle.nego_base.specs.Members.{is_in, RisesFrom, IsRising}
use Rattle.nego_base.proofs.Members.{All-member, All-members, member_from, rises-range, rises_more}
use Rattle.nego_base.proofs.PairLaws.{AllPairs-nil, AllPairs-cons}
use Rattle.nego_reader.specs.Content.{AtomContent}
use Rattle.nego_shape.specs.Naming.{place_of, places_of, agent_names, atom_names, parties_in, parties_at}
use Rattle.nego_shape.specs.Shaped.{AreDifferent, IsDeclared}
use Rattle.nego_shape.proofs.Places.{place_is}
use Rattle.nego_make.specs.Generated.{agent_name, atom_name, everyone, by_turns, parties, atom, generated}

abbrev pub AreBelow : ℕ → List ℕ → Type 0
AreBelow most xs = All (λ x. x < most) xs

-- a letter and each of some rising numbers are names that differ
pub names_differ : (letter low : ℕ) (xs : List ℕ) → RisesFrom low xs → AreBelow 64 xs → AreDifferent (map (λ k. letter ∷ decimal k) xs)
names_differ letter low [] r below = AllPairs-nil (λ one two. one ≢ two)
names_differ letter low (x ∷ xs) r below =
    let here : x < 64 = All-head (λ y. y < 64) x xs below in
    let rest = All-tail (λ y. y < 64) x xs below in
    AllPairs-cons (λ one two. one ≢ two) (name x) (map name xs)
    (All-map (λ other. name x ≢ other) name xs (All-members (λ y. name x ≢ name y) xs (λ y m e.
    let small : y < 64 = All-member64 y m rest in
    let same : x ≡ y = decimal_injective x y (omega (arith, here)) (omega (arith, small)) (ap (drop 1) e) in
    let above : x + 1 ≤ y = member_from (x + 1) y xs r.1 m in
    omega (arith, same, above))))
    (names_differ letter (x + 1) xs r.1 rest)
  where
    name : ℕ → List ℕ
    name k = letter ∷ decimal k

    All-member64 : (y : ℕ) → is_in y xs ≡ true → AreBelow 64 xs → y < 64
    All-member64 y m rest = All-member (λ z. z < 64) y xs rest m

-- ---- parties

-- what everyone, the first two and the other two have, the parties of each atom have
pub parties_have : (P : List ℕ → Type 0) → P everyone → P (0 ∷ 1 ∷ []) → P (2 ∷ 3 ∷ []) → (n i : ℕ) → P (parties n i)
parties_have P all one two n i =
    cond_both (i + 1 == n) everyone (by_turns (i % 3)) P (λ _. all)
    (λ _. cond_both (i % 3 == 1) (0 ∷ 1 ∷ []) (cond (i % 3 == 2) (2 ∷ 3 ∷ []) everyone) P (λ _. one)
    (λ _. cond_both (i % 3 == 2) (2 ∷ 3 ∷ []) everyone P (λ _. two) (λ _. all)))

pub range_below : (a k most : ℕ) → a + k ≤ most → AreBelow most (range_with_len a k)
range_below a zero most h = All-nil (λ x. x < most)
range_below a (suc k) most h = All-cons (λ x. x < most) a (range_with_len (a + 1) k) (omega (arith, h)) (range_below (a + 1) k most (omega (arith, h)))

pub parties_rise : (n i : ℕ) → IsRising (parties n i)
parties_rise = parties_have IsRising (rises-range 0 4) (rises-range 0 2) (rises_more 0 2 (2 ∷ 3 ∷ []) (omega arith) (rises-range 2 2))

pub parties_below : (n i : ℕ) → AreBelow 4 (parties n i)
parties_below = parties_have (AreBelow 4) (range_below 0 4 4 (omega arith)) (range_below 0 2 4 (omega arith)) (range_below 2 2 4 (omega arith))

-- ---- places

-- what holds of 0 to 3 holds of each agent
pub each_agent : (P : ℕ → Type 0) → P 0 → P 1 → P 2 → P 3 → (a : ℕ) → a < 4 → P a
each_agent P p q r s zero h = p
each_agent P p q r s (suc zero) h = q
each_agent P p q r s (suc (suc zero)) h = r
each_agent P p q r s (suc (suc (suc zero))) h = s
each_agent P p q r s (suc (suc (suc (suc a)))) h = absurd (let no_more : ⊥ = omega (arith, h) in no_more)

slice-range : (a k i : ℕ) → i < k → slice_get (range_with_len a k) i ≡ Some (a + i)
slice-range a zero i h = absurd (let no_more : ⊥ = omega (arith, h) in no_more)
slice-range a (suc k) zero h = ap Some (let e : a ≡ a + 0 = omega arith in e)
slice-range a (suc k) (suc i) h = slice-range (a + 1) k i (omega (arith, h)) ∙ ap Some (let e : a + 1 + i ≡ a + suc i = omega arith in e)

slice-range_zero : (k i : ℕ) → i < k → slice_get (range_with_len 0 k) i ≡ Some i
slice-range_zero k i h = slice-range 0 k i h ∙ ap Some (let e : 0 + i ≡ i = omega arith in e)

names_of_atoms : (n : ℕ) (xs : List ℕ) → map (λ (x : AtomContent). x.name) (map (atom n) xs) ≡ map atom_name xs
names_of_atoms n [] = refl
names_of_atoms n (x ∷ xs) = ap (λ names. atom_name x ∷ names) (names_of_atoms n xs)

module _ (n : ℕ) where
  pub agents_differ : AreDifferent (agent_names (generated n))
  agents_differ = names_differ 97 0 everyone (rises-range 0 4) (range_below 0 4 64 (omega arith))

  pub agent_place : (a : ℕ) → a < 4 → place_of (agent_name a) (agent_names (generated n)) ≡ a
  agent_place a h =
      place_is (agent_names (generated n)) agents_differ a (agent_name a)
      (each_agent (λ b. slice_get (agent_names (generated n)) b ≡ Some (agent_name b)) refl refl refl refl a h)

  pub agent_declared : (a : ℕ) → a < 4 → IsDeclared (agent_names (generated n)) (agent_name a)
  agent_declared a h = subst (λ k. k < 4) (sym (agent_place a h)) h

  pub places : (xs : List ℕ) → AreBelow 4 xs → places_of (map agent_name xs) (agent_names (generated n)) ≡ xs
  places [] below = refl
  places (x ∷ xs) below =
      ap (λ k. k ∷ places_of (map agent_name xs) (agent_names (generated n))) (agent_place x (All-head (λ y. y < 4) x xs below))
      ∙ ap (λ ks. x ∷ ks) (places xs (All-tail (λ y. y < 4) x xs below))

  pub atom_names_are : atom_names (generated n) ≡ map atom_name (range_with_len 0 n)
  atom_names_are = names_of_atoms n (range_with_len 0 n)

  pub atom_count : length (generated n).atoms ≡ n
  atom_count = length-map-range_with_len (atom n) 0 n

  pub name_count : length (atom_names (generated n)) ≡ n
  name_count = ap length atom_names_are ∙ length-map-range_with_len atom_name 0 n

  pub atom_at : (i : ℕ) → i < n → slice_get (generated n).atoms i ≡ Some (atom n i)
  atom_at i h = slice_get-map (atom n) (range_with_len 0 n) i ∙ ap (option_map (atom n)) (slice-range_zero n i h)

  pub atoms_differ : n ≤ 64 → AreDifferent (atom_names (generated n))
  atoms_differ few = subst AreDifferent (sym atom_names_are) (names_differ 109 0 (range_with_len 0 n) (rises-range 0 n) (range_below 0 n 64 (omega (arith, few))))

  pub atom_place : n ≤ 64 → (i : ℕ) → i < n → place_of (atom_name i) (atom_names (generated n)) ≡ i
  atom_place few i h =
      place_is (atom_names (generated n)) (atoms_differ few) i (atom_name i)
      (ap (λ names. slice_get names i) atom_names_are ∙ (slice_get-map atom_name (range_with_len 0 n) i ∙ ap (option_map atom_name) (slice-range_zero n i h)))

  pub atom_declared : n ≤ 64 → (i : ℕ) → i < n → IsDeclared (atom_names (generated n)) (atom_name i)
  atom_declared few i h = let p = atom_place few i h in let c = name_count in omega (arith, p, c, h)

  -- the parties of an atom, by their names
  named_parties : (i : ℕ) → parties_in (generated n) (map agent_name (parties n i)) ≡ parties n i
  named_parties i =
      ap (λ ps. filter (λ a. is_in a ps) (range_with_len 0 4)) (places (parties n i) (parties_below n i))
      ∙ parties_have (λ xs. filter (λ a. is_in a xs) (range_with_len 0 4) ≡ xs) refl refl refl n i

  pub parties_are : (i : ℕ) → i < n → parties_at (generated n) i ≡ parties n i
  parties_are i h = ap (λ found. option_map_or (λ (x : AtomContent). parties_in (generated n) x.parties) found []) (atom_at i h) ∙ named_parties i
