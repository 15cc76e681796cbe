-- The names that are made are names by their bytes.
use Rattle.std.proofs.Common.{◌≡◌, ℕ, ◌^◌, ◌<◌, ◌≤◌, ◌==◌, true, ◌||◌, [], ◌∷◌, length, slice_index, codes, decimal, IsTrue, refl, arith, le-leb}
use Rattle.std.proofs.lemmas.Bool.{and_from, or_left, or_right}
use Rattle.std.proofs.lemmas.Fmt.{length-decimal-le}
use Rattle.std.proofs.lemmas.List.Elements.{All-map, All-weaker}
use Rattle.std.specs.List.{All, list_all}
use Rattle.nego_base.specs.Name.{is_letter, is_name_byte, is_name}
use Rattle.nego_base.specs.Number.{is_digit}
use Rattle.nego_base.proofs.Members.{all_at, all_from}
use Rattle.nego_base.proofs.NameLaws.{decimal_digits}
use Rattle.nego_reader.specs.Content.{AgentContent, OutContent}
use Rattle.nego_shape.specs.Shaped.{HasNameWords}
use Rattle.nego_make.specs.Generated.{agent_name, atom_name, everyone, agent, parties, next_lines, outcome, generated}
use Rattle.nego_make.proofs.Names.{range_below}
use Rattle.nego_make.proofs.OutcomeKinds.{one, both_ways, both_endings, each_atom, lists_have}

digit_in_name : (b : ℕ) → is_digit b ≡ true → is_name_byte b ≡ true
digit_in_name b h = or_left (is_letter b || is_digit b) (b == 95) (or_right (is_letter b) (is_digit b) h)

pub decimal_short : (k : ℕ) → k < 64 → length (decimal k) ≤ 2
decimal_short k h = length-decimal-le 2 k (omega arith) (omega (arith, h)) (omega (arith, h))

-- a letter and a number are a name
pub numbered_name : (letter k : ℕ) → is_letter letter ≡ true → k < 64 → is_name (letter ∷ decimal k) ≡ true
unfolding is_name
numbered_name letter k h small =
    let short = decimal_short k small in
    let wide : k < 2 ^ 64 = omega (arith, small) in
    and_from _ _
    (and_from _ _ (and_from _ _ (le-leb 1 (length (letter ∷ decimal k)) (omega arith)) (le-leb (length (letter ∷ decimal k)) 24 (omega (arith, short)))) h)
    (and_from (is_name_byte letter) (list_all is_name_byte (decimal k)) (or_left (is_letter letter || is_digit letter) (letter == 95) (or_left (is_letter letter) (is_digit letter) h))
    (all_from is_name_byte (decimal k) (λ b m. digit_in_name b (all_at is_digit (decimal k) b (decimal_digits k wide) m))))

pub agent_named : (a : ℕ) → a < 4 → IsTrue (is_name (agent_name a))
agent_named a h = numbered_name 97 a refl (omega (arith, h))

pub atom_named : (i : ℕ) → i < 64 → IsTrue (is_name (atom_name i))
atom_named i h = numbered_name 109 i refl h

pub literals : IsTrue (is_name (codes "go")) × IsTrue (is_name (codes "good")) × IsTrue (is_name (codes "bad")) × IsTrue (is_name (codes "x")) × IsTrue (is_name (codes "y"))
unfolding is_name
literals = (refl, refl, refl, refl, refl)

abbrev HasName : OutContent → Type 0
HasName out = IsTrue (is_name out.name)

pub named_words : (n : ℕ) → n ≤ 64 → HasNameWords (generated n)
named_words n few = record {
  agents = All-map (λ (x : AgentContent). IsTrue (is_name x.name)) agent everyone (All-weaker (λ a. a < 4) (λ a. IsTrue (is_name (agent_name a))) agent_named everyone (range_below 0 4 4 (omega arith)));
  atoms = each_atom (λ x. IsTrue (is_name x.name)) n (λ i h. atom_named i (omega (arith, h, few)));
  outcomes = each_atom (λ x. All HasName x.outs) n (λ i h.
      lists_have (All HasName) n i (λ _. one HasName (outcome (codes "go") [] (next_lines n 0)) literals.0) (λ _ _. both_endings HasName literals.1 literals.2)
      (λ _ _. both_ways HasName (slice_index (parties n i) 0) (slice_index (parties n i) 1) (next_lines n i) literals.3 literals.4));
}
