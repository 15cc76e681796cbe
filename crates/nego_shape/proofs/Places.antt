-- Places of names, and the agents and atoms that names are.
use Rattle.std.proofs.Common.{◌≡◌, ◌≢◌, ⊎_elim, ℕ, suc, ◌+◌, ◌<◌, ◌==◌, Bool, true, false, not, cond, List, [], ◌∷◌, length, get_or, Option, Some, None, slice_get, refl, sym, subst, ap, ◌∙◌, arith, eqb-true, eq-eqb}
use Rattle.std.proofs.lemmas.Bool.{and_parts, and_from, or_left, or_right, or_cases, false≢true, false_from_ne_true, ltb-true, lt-ltb}
use Rattle.std.proofs.lemmas.Option.{same_Some, get_or_from_slice_get, slice_get_within}
use Rattle.std.proofs.lemmas.List.Elements.{All-nil, All-head, All-tail}
use Rattle.std.proofs.lemmas.List.Sums.{position_or_len_is}
use Rattle.std.proofs.lemmas.Slice.Eq.{bytes_eq-Decides}
use Rattle.std.specs.List.{All, list_any, range_with_len}
use Rattle.std.specs.Option.{option_map_or}
use Rattle.std.specs.Str.{bytes_eq}
use Rattle.nego_base.specs.Members.{is_in, IsRising, IsRisingBelow}
use Rattle.nego_base.proofs.Members.{is_in-filter, is_in-range_zero, rises-filter, rises-range, All-members, is_in-head}
use Rattle.nego_base.proofs.BoolLaws.{passing_item}
use Rattle.nego_reader.specs.Content.{Content, AtomContent, OutContent, NextContent}
use Rattle.nego_shape.specs.Naming.{place_of, places_of, agent_names, atom_names, parties_in, parties_at, leads_to, next_atoms}
use Rattle.nego_shape.specs.Shaped.{AreDifferent, IsDeclared}

-- a declared name stands at its place
pub place_of-at : (name : List ℕ) (names : List (List ℕ)) → IsDeclared names name → slice_get names (place_of name names) ≡ Some name
place_of-at name [] h = absurd (omega (arith, h))
place_of-at name (x ∷ xs) h = go (bytes_eq x name) refl (place_of-at name xs)
  where
    go : (b : Bool) → bytes_eq x name ≡ b → (place_of name xs < length xs → slice_get xs (place_of name xs) ≡ Some name) → slice_get (x ∷ xs) (place_of name (x ∷ xs)) ≡ Some name
    go true e more = subst (λ b. slice_get (x ∷ xs) (cond (not b) (1 + place_of name xs) 0) ≡ Some name) (sym e) (ap Some ((bytes_eq-Decides x name).0 e))
    go false e more =
        let k : cond (not false) (1 + place_of name xs) 0 < length (x ∷ xs) = subst (λ b. cond (not b) (1 + place_of name xs) 0 < length (x ∷ xs)) e h in
        let l : place_of name xs < length xs = omega (arith, k) in
        subst (λ b. slice_get (x ∷ xs) (cond (not b) (1 + place_of name xs) 0) ≡ Some name) (sym e)
        (let one : suc (place_of name xs) ≡ 1 + place_of name xs = omega arith in subst (λ k. slice_get (x ∷ xs) k ≡ Some name) one (more l))

-- declared names with one place are the same
pub place_of-same : (one two : List ℕ) (names : List (List ℕ)) → IsDeclared names one → IsDeclared names two → place_of one names ≡ place_of two names → one ≡ two
place_of-same one two names h k e = same_Some one two (sym (place_of-at one names h) ∙ (ap (slice_get names) e ∙ place_of-at two names k))

-- a number among places is the place of a name
pub named_place : (P : List ℕ → Type 0) (a : ℕ) (names all : List (List ℕ)) → All P names → is_in a (places_of names all) ≡ true → (name : List ℕ) × (place_of name all ≡ a) × P name
named_place P a [] all h k = absurd (false≢true k)
named_place P a (name ∷ names) all h k =
    ⊎_elim (λ e. (name, eqb-true (place_of name all) a e, All-head P name names h)) (λ m. named_place P a names all (All-tail P name names h) m)
    (or_cases (place_of name all == a) (is_in a (places_of names all)) k)

module _ (c : Content) where
  -- the parties rise and are agents
  pub parties_in-rises : (names : List (List ℕ)) → IsRisingBelow (length c.agents) (parties_in c names)
  parties_in-rises names = record {
    rising = rises-filter (λ a. is_in a (places_of names (agent_names c))) 0 (range_with_len 0 (length c.agents)) (rises-range 0 (length c.agents));
    below = All-members (λ a. a < length c.agents) (parties_in c names) (λ a m.
        let h = is_in-filter (λ x. is_in x (places_of names (agent_names c))) a (range_with_len 0 (length c.agents)) in
        let p = and_parts (is_in a (places_of names (agent_names c))) (is_in a (range_with_len 0 (length c.agents))) (sym h ∙ m) in
        ltb-true a (length c.agents) (sym (is_in-range_zero a (length c.agents)) ∙ p.1));
  }

  -- so do those of an atom
  pub parties_at-below : (n : ℕ) → All (λ a. a < length c.agents) (parties_at c n)
  parties_at-below n = go (slice_get c.atoms n)
    where
      go : (o : Option AtomContent) → All (λ a. a < length c.agents) (option_map_or (λ (atom : AtomContent). parties_in c atom.parties) o [])
      go None = All-nil (λ a. a < length c.agents)
      go (Some atom) = (parties_in-rises atom.parties).below

  -- an agent among the places is a party
  pub in_parties_in : (a : ℕ) (names : List (List ℕ)) → a < length c.agents → is_in a (places_of names (agent_names c)) ≡ true → is_in a (parties_in c names) ≡ true
  in_parties_in a names h m =
      is_in-filter (λ x. is_in x (places_of names (agent_names c))) a (range_with_len 0 (length c.agents))
      ∙ and_from (is_in a (places_of names (agent_names c))) (is_in a (range_with_len 0 (length c.agents))) m (is_in-range_zero a (length c.agents) ∙ lt-ltb a (length c.agents) h)

  -- some declared names are some party
  pub some_party_in : (names : List (List ℕ)) → names ≢ [] → All (IsDeclared (agent_names c)) names → length (agent_names c) ≡ length c.agents → parties_in c names ≢ []
  some_party_in [] some h l = absurd (some refl)
  some_party_in (name ∷ names) some h l = λ e.
      let d = All-head (IsDeclared (agent_names c)) name names h in
      let a = place_of name (agent_names c) in
      let m : is_in a (parties_in c (name ∷ names)) ≡ true = in_parties_in a (name ∷ names) (subst (λ n. a < n) l d) (is_in-head a (places_of names (agent_names c))) in
      false≢true (subst (λ xs. is_in a xs ≡ true) e m)

  -- next atoms rise
  pub next_atoms-rises : (out : OutContent) (a : ℕ) → IsRising (next_atoms c out a)
  next_atoms-rises out a = rises-filter (λ n. list_any (leads_to c a n) out.nexts) 0 (range_with_len 0 (length c.atoms)) (rises-range 0 (length c.atoms))

  -- a next atom is an atom, and stands on a next line of the agent
  pub next_atoms-line : (P : NextContent → Type 0) (out : OutContent) (a n : ℕ) → All P out.nexts → is_in n (next_atoms c out a) ≡ true →
      (n < length c.atoms) × ((next : NextContent) × P next × (place_of next.atom (atom_names c) ≡ n) × (is_in a (places_of next.agents (agent_names c)) ≡ true))
  next_atoms-line P out a n all m =
      let h = is_in-filter (λ k. list_any (leads_to c a k) out.nexts) n (range_with_len 0 (length c.atoms)) in
      let p = and_parts (list_any (leads_to c a n) out.nexts) (is_in n (range_with_len 0 (length c.atoms))) (sym h ∙ m) in
      let line = passing_item (leads_to c a n) P out.nexts p.0 all in
      let both = and_parts (place_of line.0.atom (atom_names c) == n) (is_in a (places_of line.0.agents (agent_names c))) line.1 in
      (ltb-true n (length c.atoms) (sym (is_in-range_zero n (length c.atoms)) ∙ p.1), (line.0, line.2, eqb-true (place_of line.0.atom (atom_names c)) n both.0, both.1))

  -- who stands on some next line has a next atom, where next atoms are declared
  line_leads : (a : ℕ) (nexts : List NextContent) → All (λ next. IsDeclared (atom_names c) next.atom) nexts → list_any (λ next. is_in a (places_of next.agents (agent_names c))) nexts ≡ true →
      (n : ℕ) × (n < length (atom_names c)) × (list_any (leads_to c a n) nexts ≡ true)
  line_leads a [] h k = absurd (false≢true k)
  line_leads a (next ∷ nexts) h k =
      ⊎_elim
      (λ e. (
        place_of next.atom (atom_names c),
        All-head (λ x. IsDeclared (atom_names c) x.atom) next nexts h,
        or_left (leads_to c a (place_of next.atom (atom_names c)) next) (list_any (leads_to c a (place_of next.atom (atom_names c))) nexts)
            (and_from (place_of next.atom (atom_names c) == place_of next.atom (atom_names c)) (is_in a (places_of next.agents (agent_names c))) (eq-eqb (place_of next.atom (atom_names c)) (place_of next.atom (atom_names c)) refl) e),
      ))
      (λ m. let r = line_leads a nexts (All-tail (λ x. IsDeclared (atom_names c) x.atom) next nexts h) m in (r.0, r.1, or_right (leads_to c a r.0 next) (list_any (leads_to c a r.0) nexts) r.2))
      (or_cases (is_in a (places_of next.agents (agent_names c))) (list_any (λ x. is_in a (places_of x.agents (agent_names c))) nexts) k)

  pub some_next_atom : (a : ℕ) (out : OutContent) → All (λ next. IsDeclared (atom_names c) next.atom) out.nexts → list_any (λ next. is_in a (places_of next.agents (agent_names c))) out.nexts ≡ true →
      length (atom_names c) ≡ length c.atoms → next_atoms c out a ≢ []
  some_next_atom a out h k l = λ e.
      let r = line_leads a out.nexts h k in
      let m : is_in r.0 (next_atoms c out a) ≡ true =
      is_in-filter (λ n. list_any (leads_to c a n) out.nexts) r.0 (range_with_len 0 (length c.atoms))
      ∙ and_from (list_any (leads_to c a r.0) out.nexts) (is_in r.0 (range_with_len 0 (length c.atoms))) r.2 (is_in-range_zero r.0 (length c.atoms) ∙ lt-ltb r.0 (length c.atoms) (subst (λ n. r.0 < n) l r.1)) in
      false≢true (subst (λ xs. is_in r.0 xs ≡ true) e m)

-- a name that stands at a place, where names differ
pub place_is : (names : List (List ℕ)) → AreDifferent names → (a : ℕ) (name : List ℕ) → slice_get names a ≡ Some name → place_of name names ≡ a
place_is names differ a name at =
    let inside = slice_get_within names a name at in
    let is = get_or_from_slice_get names a name name at in
    position_or_len_is (λ other. bytes_eq other name) names a name (omega (arith, inside))
    (λ k l. false_from_ne_true (bytes_eq (get_or names k name) name) (λ t. differ k a name l inside ((bytes_eq-Decides (get_or names k name) name).0 t ∙ sym is)))
    (λ l. (bytes_eq-Decides (get_or names a name) name).1 is)
