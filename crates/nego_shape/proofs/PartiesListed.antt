-- The faults of atoms without parties or outcomes, and of agents who are no party of the first or the last atom.
use Rattle.std.proofs.Common.{◌≡◌, ◌≢◌, inr, ℕ, zero, suc, ◌+◌, ◌<◌, ◌==◌, Bool, true, false, not, List, [], ◌∷◌, length, map, get_or, Option, Some, None, slice_get, refl, sym, subst, ap, ◌∙◌, arith}
use Rattle.std.proofs.lemmas.Bool.{false≢true, and_from, and_parts, ltb-true, lt-ltb, ne_eqb}
use Rattle.std.proofs.lemmas.List.{length-map}
use Rattle.std.proofs.lemmas.List.Elements.{All-map}
use Rattle.std.proofs.lemmas.Option.{none-some, same_Some}
use Rattle.std.specs.List.{AllPairs, range_with_len}
use Rattle.std.specs.Option.{option_map, option_map_or, MatchOption}
use Rattle.nego_base.specs.declared.ids.AgentId.{AgentId}
use Rattle.nego_base.specs.declared.line.Word.{Word}
use Rattle.nego_base.specs.Members.{is_in, difference, RisesFrom}
use Rattle.nego_base.proofs.ListLaws.{All-unmap}
use Rattle.nego_base.proofs.Members.{All-members, is_in_none, is_in-difference, is_in-range_zero, member_from, nil_from_none, rises-filter, rises-range}
use Rattle.nego_base.proofs.PairLaws.{AllPairs-nil, AllPairs-cons}
use Rattle.nego_reader.specs.declared.parsed.Parsed.{Parsed}
use Rattle.nego_reader.specs.declared.parsed.PAtom.{PAtom}
use Rattle.nego_reader.specs.Content.{Content, AtomContent, content_of, atom_content, out_content, texts}
use Rattle.nego_shape.specs.declared.fault.ShapeKind.{ShapeKind}
use Rattle.nego_shape.specs.declared.fault.ShapeKind.TheVariants as kinds
use Rattle.nego_shape.specs.declared.numbers.AtomNumbers.{AtomNumbers}
use Rattle.nego_shape.specs.Made.{atom_numbers}
use Rattle.nego_shape.specs.Faults.{spot, first_of, of_agents, lacking, IsAhead}
use Rattle.nego_shape.specs.Conditions.{SomeParty, SomeOutcome, AllBegin, AllEnd}
use Rattle.nego_shape.specs.Naming.{place_of, atom_names, parties_in, parties_at}
use Rattle.nego_shape.specs.Shaped.{IsDeclared, first_number, last_number}
use Rattle.nego_shape.proofs.CountsListed.{atoms_lines}
use Rattle.nego_shape.proofs.Numbered.{empty_map, clear-numbered, empty-numbered}
use Rattle.nego_shape.proofs.Search.{IsListed}
use Rattle.nego_shape.proofs.SpotLists.{no_spot, fails, passing, rises-passing}
use Rattle.nego_shape.proofs.ShapedDiagrams.{atoms-count}

-- ---- the first

-- the least of these agents
pub first_agent : (line : ℕ) (kind : AgentId → ShapeKind) (agents : List ℕ) (least : Option AgentId) → MatchOption least (agents ≡ []) (λ a. slice_get agents 0 ≡ Some a.0) →
    first_of (of_agents line kind agents) ≡ option_map (λ a. record { line = line; kind = kind a }) least
first_agent line kind agents None h = rw h refl
first_agent line kind [] (Some a) h = absurd (none-some a.0 h)
first_agent line kind (x ∷ xs) (Some a) h = ap (λ (n : ℕ). Some (record { line = line; kind = kind (record { 0 = n }) })) (same_Some x a.0 h)

-- the parties of an atom, by the numbers
parties_there : (c : Content) (atoms : List PAtom) (n : ℕ) (d : AtomNumbers) → n < length atoms → (get_or (map (atom_numbers c) atoms) n d).parties ≡ option_map_or (λ (atom : AtomContent). parties_in c atom.parties) (slice_get (map atom_content atoms) n) []
parties_there c [] n d h = absurd (omega (arith, h))
parties_there c (atom ∷ atoms) zero d h = refl
parties_there c (atom ∷ atoms) (suc n) d h = parties_there c atoms n d (omega (arith, h))

pub parties_of : (p : Parsed) (numbers : List AtomNumbers) → numbers ≡ map (atom_numbers (content_of p)) p.atoms → (n : ℕ) (d : AtomNumbers) → n < length p.atoms → (get_or numbers n d).parties ≡ parties_at (content_of p) n
parties_of p numbers are n d below = ap (λ (xs : List AtomNumbers). (get_or xs n d).parties) are ∙ parties_there (content_of p) p.atoms n d below

-- a declared name is that of an atom
pub atom_inside : (p : Parsed) (name : List ℕ) → IsDeclared (atom_names (content_of p)) name → place_of name (atom_names (content_of p)) < length p.atoms
atom_inside p name declared = subst (λ n. place_of name (atom_names (content_of p)) < n) (atoms-count (content_of p) ∙ length-map p.atoms atom_content) declared

-- ---- each condition

-- numbers that rise, on one line
module _ (line : ℕ) (kind : AgentId → ShapeKind) where
  agents_rising : (low : ℕ) (xs : List ℕ) → RisesFrom low xs → AllPairs IsAhead (of_agents line kind xs)
  agents_rising low [] h = AllPairs-nil IsAhead
  agents_rising low (x ∷ xs) h =
      AllPairs-cons IsAhead (spot line x (kind (record { 0 = x }))) (of_agents line kind xs)
      (All-map (IsAhead (spot line x (kind (record { 0 = x })))) (λ a. spot line a (kind (record { 0 = a }))) xs (λ k d l. inr (refl, All-members (λ y. x < y) xs (λ y m. let above = member_from (x + 1) y xs h.1 m in omega (arith, above)) k d l)))
      (agents_rising (x + 1) xs h.1)

  -- none lacks, where each is a member
  each_in : (n : ℕ) (parties : List ℕ) → of_agents line kind (difference (range_with_len 0 n) parties) ≡ [] → (a : ℕ) → a < n → is_in a parties ≡ true
  each_in n parties h a l = go (is_in a parties) refl
    where
      none : difference (range_with_len 0 n) parties ≡ []
      none = empty_map (λ a. spot line a (kind (record { 0 = a }))) (difference (range_with_len 0 n) parties) h

      go : (b : Bool) → is_in a parties ≡ b → is_in a parties ≡ true
      go true e = e
      go false e =
          absurd (is_in_none a (difference (range_with_len 0 n) parties) none
          (is_in-difference a (range_with_len 0 n) parties ∙ and_from (not (is_in a parties)) (is_in a (range_with_len 0 n)) (ap not e) (is_in-range_zero a n ∙ lt-ltb a n l)))

  in_each : (n : ℕ) (parties : List ℕ) → ((a : ℕ) → a < n → is_in a parties ≡ true) → of_agents line kind (difference (range_with_len 0 n) parties) ≡ []
  in_each n parties h = ap (of_agents line kind) (nil_from_none (difference (range_with_len 0 n) parties) none)
    where
      none : (a : ℕ) → is_in a (difference (range_with_len 0 n) parties) ≡ false
      none a = go (is_in a (difference (range_with_len 0 n) parties)) refl
        where
          go : (b : Bool) → is_in a (difference (range_with_len 0 n) parties) ≡ b → is_in a (difference (range_with_len 0 n) parties) ≡ false
          go false e = e
          go true e =
              let two = and_parts (not (is_in a parties)) (is_in a (range_with_len 0 n)) (sym (is_in-difference a (range_with_len 0 n) parties) ∙ e) in
              absurd (false≢true (sym (ap not (h a (ltb-true a n (sym (is_in-range_zero a n) ∙ two.1)))) ∙ two.0))

module _ (p : Parsed) where
  abbrev c : Content
  c = content_of p

  lacking_rises : (kind : AgentId → ShapeKind) (word : Word) → AllPairs IsAhead (lacking c kind word)
  lacking_rises kind word =
      let parties = parties_at c (place_of word.text (atom_names c)) in
      agents_rising word.line kind 0 (difference (range_with_len 0 (length c.agents)) parties) (rises-filter (λ a. not (is_in a parties)) 0 (range_with_len 0 (length c.agents)) (rises-range 0 (length c.agents)))

  pub all_begin : IsListed p AllBegin
  all_begin = record {
    clear = λ met h. each_in p.first.line kinds.FirstLacks (length c.agents) (parties_at c (first_number c)) h;
    empty = λ met h. in_each p.first.line kinds.FirstLacks (length c.agents) (parties_at c (first_number c)) h;
    rises = λ rises. lacking_rises kinds.FirstLacks p.first;
  }

  pub all_end : IsListed p AllEnd
  all_end = record {
    clear = λ met h. each_in p.last.line kinds.LastLacks (length c.agents) (parties_at c (last_number c)) h;
    empty = λ met h. in_each p.last.line kinds.LastLacks (length c.agents) (parties_at c (last_number c)) h;
    rises = λ rises. lacking_rises kinds.LastLacks p.last;
  }

  -- lists that have items, by their lengths
  some_item : {A B : Type 0} (f : A → B) (xs : List A) → (length xs == 0) ≡ false → map f xs ≢ []
  some_item f [] h = λ e. false≢true (sym h)
  some_item f (x ∷ xs) h = λ e. cc

  has_some : {A B : Type 0} (f : A → B) (xs : List A) → map f xs ≢ [] → (length xs == 0) ≡ false
  has_some f [] h = absurd (h refl)
  has_some f (x ∷ xs) h = ne_eqb (length (x ∷ xs)) 0 (λ e. omega (arith, e))

  pub some_party : IsListed p SomeParty
  some_party = record {
    clear = λ met h. All-map (λ (atom : AtomContent). atom.parties ≢ []) atom_content p.atoms (clear-numbered (passing bare line kind) (λ (atom : PAtom). texts atom.parties ≢ []) (λ n atom e. some_item (λ (word : Word). word.text) atom.parties (fails (bare n atom) (line atom) (kind n) e)) 0 p.atoms h);
    empty = λ met h. empty-numbered (passing bare line kind) (λ (atom : PAtom). texts atom.parties ≢ []) (λ n atom e. no_spot (bare n atom) (line atom) (kind n) (has_some (λ (word : Word). word.text) atom.parties e)) 0 p.atoms (All-unmap (λ (atom : AtomContent). atom.parties ≢ []) atom_content p.atoms h);
    rises = λ rises. rises-passing bare line kind p.atoms (atoms_lines p rises);
  }
    where
      bare : ℕ → PAtom → Bool
      bare n atom = length atom.parties == 0

      line : PAtom → ℕ
      line atom = atom.name.line

      kind : ℕ → ShapeKind
      kind n = kinds.NoParty (record { 0 = n })

  pub some_outcome : IsListed p SomeOutcome
  some_outcome = record {
    clear = λ met h. All-map (λ (atom : AtomContent). atom.outs ≢ []) atom_content p.atoms (clear-numbered (passing bare line kind) (λ (atom : PAtom). map out_content atom.outs ≢ []) (λ n atom e. some_item out_content atom.outs (fails (bare n atom) (line atom) (kind n) e)) 0 p.atoms h);
    empty = λ met h. empty-numbered (passing bare line kind) (λ (atom : PAtom). map out_content atom.outs ≢ []) (λ n atom e. no_spot (bare n atom) (line atom) (kind n) (has_some out_content atom.outs e)) 0 p.atoms (All-unmap (λ (atom : AtomContent). atom.outs ≢ []) atom_content p.atoms h);
    rises = λ rises. rises-passing bare line kind p.atoms (atoms_lines p rises);
  }
    where
      bare : ℕ → PAtom → Bool
      bare n atom = length atom.outs == 0

      line : PAtom → ℕ
      line atom = atom.name.line

      kind : ℕ → ShapeKind
      kind n = kinds.NoOutcome (record { 0 = n })
