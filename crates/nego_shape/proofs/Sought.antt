-- What the search for a name finds.
use Rattle.std.proofs.Common.{◌≡◌, ℕ, ◌+◌, ◌≤◌, ◌==◌, ◌||◌, Bool, true, false, not, cond, nat_lt, List, [], ◌∷◌, length, map, Option, Some, None, refl, ap, ◌∙◌, arith}
use Rattle.std.proofs.lemmas.Bool.{ltb-false}
use Rattle.std.proofs.lemmas.Cmp.{nat_list_eq_equiv}
use Rattle.std.specs.List.{position, position_or_len, list_any}
use Rattle.std.specs.Option.{unwrap_or}
use Rattle.std.specs.Str.{bytes_eq}
use Rattle.nego_base.specs.declared.line.Word.{Word}
use Rattle.nego_base.specs.Members.{is_in}
use Rattle.nego_reader.specs.Content.{texts}
use Rattle.nego_shape.specs.Naming.{place_of, places_of}

-- the first place among mapped items
pub position_or_len-map : {X Y : Type 0} (p : Y → Bool) (f : X → Y) (xs : List X) → position_or_len p (map f xs) ≡ position_or_len (λ x. p (f x)) xs
position_or_len-map p f [] = refl
position_or_len-map p f (x ∷ xs) = ap (λ n. cond (not (p (f x))) (1 + n) 0) (position_or_len-map p f xs)

-- it is at most the count
pub position_or_len-within : {X : Type 0} (p : X → Bool) (xs : List X) → position_or_len p xs ≤ length xs
position_or_len-within p [] = omega arith
position_or_len-within p (x ∷ xs) = go (p x) (position_or_len-within p xs)
  where
    go : (b : Bool) → position_or_len p xs ≤ length xs → cond (not b) (1 + position_or_len p xs) 0 ≤ length (x ∷ xs)
    go true h = omega arith
    go false h = omega (arith, h)

-- a position, or else the count, is the first place
sought : {X : Type 0} (p : X → Bool) (xs : List X) (o : Option ℕ) (n : ℕ) → o ≡ position p xs → n ≡ length xs → unwrap_or o n ≡ position_or_len p xs
sought p xs o n e l = ap (λ x. unwrap_or x n) e ∙ go (nat_lt (position_or_len p xs) (length xs)) refl
  where
    go : (b : Bool) → nat_lt (position_or_len p xs) (length xs) ≡ b → unwrap_or (cond b (Some (position_or_len p xs)) None) n ≡ position_or_len p xs
    go true q = refl
    go false q = let past : length xs ≤ position_or_len p xs = ltb-false (position_or_len p xs) (length xs) q in let within = position_or_len-within p xs in omega (arith, l, past, within)

-- and the place of a name is found by either order of the two texts
pub name_found : (name : List ℕ) (names : List (List ℕ)) (o : Option ℕ) (n : ℕ) → o ≡ position (bytes_eq name) names → n ≡ length names → unwrap_or o n ≡ place_of name names
name_found name names o n e l = sought (bytes_eq name) names o n e l ∙ ap (λ p. position_or_len p names) (λ j other. nat_list_eq_equiv.symm name other j)

-- whether a number is the place of some word
pub places-any : (all : List (List ℕ)) (a : ℕ) (words : List Word) → is_in a (places_of (texts words) all) ≡ list_any (λ word. place_of word.text all == a) words
places-any all a [] = refl
places-any all a (word ∷ words) = ap (λ b. (place_of word.text all == a) || b) (places-any all a words)
