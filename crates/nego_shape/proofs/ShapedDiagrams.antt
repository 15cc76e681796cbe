-- The diagram of a content that has the shape is a diagram that the program takes.
use Rattle.std.proofs.Common.{◌≡◌, ◌≢◌, ⊎_elim, ℕ, ◌+◌, ◌<◌, ◌≤◌, true, List, [], length, map, Option, Some, None, slice_get, slice_index_or, refl, sym, subst, ap, ◌∙◌, inl, inr, arith}
use Rattle.std.proofs.lemmas.Bool.{false≢true, cases_lt}
use Rattle.std.proofs.lemmas.Option.{slice_get-map}
use Rattle.std.proofs.lemmas.List.{length-map, get_or_past}
use Rattle.std.proofs.lemmas.List.FromFn.{get_or-map-range_with_len, length-map-range_with_len}
use Rattle.std.proofs.lemmas.List.Elements.{All-nil, All-map, All-weaker}
use Rattle.std.specs.List.{All, range_with_len}
use Rattle.std.specs.Option.{option_map, option_map_or}
use Rattle.std.specs.Prelude.{IsTrue}
use Rattle.nego_base.specs.Members.{is_in, IsRising, IsRisingBelow}
use Rattle.nego_base.specs.Name.{is_name}
use Rattle.nego_base.proofs.Members.{in_or_not, is_in_none, nil_from_none, member_below}
use Rattle.nego_base.proofs.BoolLaws.{same_tests}
use Rattle.nego_base.proofs.PairLaws.{AllPairs-map, AllPairs-unmap}
use Rattle.nego_model.specs.declared.parts.AtomPart.{AtomPart}
use Rattle.nego_model.specs.declared.parts.Parts.{Parts}
use Rattle.nego_model.specs.Diagram.{PlainAtom, PlainOutcome, PlainDiagram, IsDiagram, outcomes_from, parties_of}
use Rattle.nego_model.specs.Limits.{IsWithinLimits, HasNames, AreInOrder}
use Rattle.nego_model.specs.Parts.{plain_of, AreParts}
use Rattle.nego_model.proofs.diagrams.Conditions.{AtomFits, OutcomeLeads, HasForm, TableFits, diagram_from_form}
use Rattle.nego_reader.specs.Content.{Content, AgentContent, AtomContent, OutContent, NextContent}
use Rattle.nego_shape.specs.Naming.{PlacedOut, place_of, agent_names, atom_names, sizes_in, all_outs, parties_in, parties_at, next_atoms, atom_in, outcome_in, diagram_in}
use Rattle.nego_shape.specs.Conditions.{AllCovered, HasShape}
use Rattle.nego_shape.proofs.FormLaws.{shape_form}
use Rattle.nego_shape.specs.Shaped.{IsDeclared, IsParty, IsNamedParty, IsSent, HasNameWords, first_number, last_number}
use Rattle.nego_shape.specs.Made.{parts_from}
use Rattle.nego_shape.proofs.Places.{parties_in-rises, some_party_in, next_atoms-rises, next_atoms-line, some_next_atom, named_place}
use Rattle.nego_shape.proofs.Outs.{nondecreasing, All-outs, outs-within, outs-in_order, outs-differ, numbers, some_number}
use Rattle.nego_shape.proofs.ShapedCases.{cases_in-named, table_in-fits}

module _ (c : Content) where
  -- as many names as agents, and as many as atoms
  pub agents-count : length (agent_names c) ≡ length c.agents
  agents-count = length-map c.agents (λ (agent : AgentContent). agent.name)

  pub atoms-count : length (atom_names c) ≡ length c.atoms
  atoms-count = length-map c.atoms (λ (atom : AtomContent). atom.name)

  atoms-made : length (map (atom_in c) c.atoms) ≡ length c.atoms
  atoms-made = length-map c.atoms (atom_in c)

  -- the parties of an atom of the diagram
  pub parties-same : (n : ℕ) → parties_of (diagram_in c) n ≡ parties_at c n
  parties-same n = ap (λ o. option_map_or (λ (atom : PlainAtom). atom.parties) o []) (slice_get-map (atom_in c) c.atoms n) ∙ mapped (slice_get c.atoms n)
    where
      mapped : (o : Option AtomContent) → option_map_or (λ (atom : PlainAtom). atom.parties) (option_map (atom_in c) o) [] ≡ option_map_or (λ (atom : AtomContent). parties_in c atom.parties) o []
      mapped None = refl
      mapped (Some atom) = refl

  -- a party is an agent
  party-below : (n a : ℕ) → IsParty c n a → a < length c.agents
  party-below n a h = go (slice_get c.atoms n) h
    where
      go : (o : Option AtomContent) → IsTrue (is_in a (option_map_or (λ (atom : AtomContent). parties_in c atom.parties) o [])) → a < length c.agents
      go None k = absurd (is_in_none a [] refl k)
      go (Some atom) k = member_below (length c.agents) a (parties_in c atom.parties) (parties_in-rises c atom.parties) k

  -- the next atoms of an agent in the diagram
  nexts-same : (out : OutContent) (a : ℕ) → a < length c.agents → slice_index_or (map (next_atoms c out) (range_with_len 0 (length c.agents))) a [] ≡ next_atoms c out a
  nexts-same out a h = get_or-map-range_with_len (next_atoms c out) 0 (length c.agents) a a [] h (omega arith)

  nexts-past : (out : OutContent) (a : ℕ) → length c.agents ≤ a → slice_index_or (map (next_atoms c out) (range_with_len 0 (length c.agents))) a [] ≡ []
  nexts-past out a h =
      get_or_past (map (next_atoms c out) (range_with_len 0 (length c.agents))) a [] (subst (λ n. n ≤ a) (sym (length-map-range_with_len (next_atoms c out) 0 (length c.agents))) h)

  -- what holds of no next atoms and of those of an agent holds of what the diagram has
  by_agent : (P : List ℕ → Type 0) (out : OutContent) (a : ℕ) → P [] → (a < length c.agents → P (next_atoms c out a)) → P (slice_index_or (map (next_atoms c out) (range_with_len 0 (length c.agents))) a [])
  by_agent P out a none some = ⊎_elim (λ h. subst P (sym (nexts-same out a h)) (some h)) (λ h. subst P (sym (nexts-past out a h)) none) (cases_lt a (length c.agents))

  module _ (ok : HasShape c) where
    -- who stands on a next line, by number
    abbrev Leads : PlacedOut → NextContent → Type 0
    Leads placed next = All (λ name. IsNamedParty c placed.atom name × IsNamedParty c (place_of next.atom (atom_names c)) name) next.agents

    -- a next atom of an agent is an atom, and the agent is a party of the outcome's atom and of it
    leads : (placed : PlacedOut) (a n : ℕ) → All (Leads placed) placed.out.nexts → is_in n (next_atoms c placed.out a) ≡ true → (n < length c.atoms) × IsParty c placed.atom a × IsParty c n a
    leads placed a n all m =
        let line = next_atoms-line c (Leads placed) placed.out a n all m in
        let next = line.1.0 in
        let named = named_place (λ name. IsNamedParty c placed.atom name × IsNamedParty c (place_of next.atom (atom_names c)) name) a next.agents (agent_names c) line.1.1 line.1.3 in (
          line.0,
          subst (λ b. IsParty c placed.atom b) named.1 named.2.0,
          subst (λ k. IsParty c k a) line.1.2 (subst (λ b. IsParty c (place_of next.atom (atom_names c)) b) named.1 named.2.1),
        )

    -- an outcome leads as it should
    outcome-leads : (placed : PlacedOut) → placed.atom < length c.atoms → (placed.atom ≢ last_number c → (a : ℕ) → IsParty c placed.atom a → IsSent c placed.out.nexts a) →
        All (λ next. IsDeclared (atom_names c) next.atom) placed.out.nexts → All (Leads placed) placed.out.nexts → (placed.atom ≡ last_number c → placed.out.nexts ≡ []) → OutcomeLeads (diagram_in c) (outcome_in c placed)
    outcome-leads placed below sent declared stand ends = record {
      own_atom = subst (λ n. placed.atom < n) (sym atoms-made) below;
      rise = λ a. by_agent IsRising placed.out a tt (λ h. next_atoms-rises c placed.out a);
      last_ends = λ e a. by_agent (λ xs. xs ≡ []) placed.out a refl (λ h. none e a);
      others_lead = λ other a p.
          let q : IsParty c placed.atom a = subst (λ xs. IsTrue (is_in a xs)) (parties-same placed.atom) p in
          subst (λ xs. xs ≢ []) (sym (nexts-same placed.out a (party-below placed.atom a q))) (some_next_atom c a placed.out declared (sent other a q) atoms-count);
      strangers_stay = λ a. ⊎_elim inl (λ no_party. inr (by_agent (λ xs. xs ≡ []) placed.out a refl (λ h. stays a no_party))) (in_or_not a (parties_of (diagram_in c) placed.atom));
      next_party = λ a n. by_agent (λ xs. IsTrue (is_in n xs) → (n < length (map (atom_in c) c.atoms)) × IsTrue (is_in a (parties_of (diagram_in c) n))) placed.out a
          (λ m. absurd (is_in_none n [] refl m))
          (λ h m. let r = leads placed a n stand m in (subst (λ k. n < k) (sym atoms-made) r.0, subst (λ xs. IsTrue (is_in a xs)) (sym (parties-same n)) r.2));
    }
      where
        none : placed.atom ≡ last_number c → (a : ℕ) → next_atoms c placed.out a ≡ []
        none e a = nil_from_none (next_atoms c placed.out a)
            (λ n. same_tests _ _ (λ m. let k : next_atoms c placed.out a ≡ next_atoms c (record { name = placed.out.name; cases = placed.out.cases; nexts = [] }) a =
            ap (λ xs. next_atoms c (record { name = placed.out.name; cases = placed.out.cases; nexts = xs }) a) (ends e) in
            let l = next_atoms-line c (λ (next : NextContent). ⊥) (record { name = placed.out.name; cases = placed.out.cases; nexts = [] }) a n (All-nil (λ (next : NextContent). ⊥)) (subst (λ xs. is_in n xs ≡ true) k m) in
            absurd l.1.1) (λ f. absurd (false≢true f)))

        stays : (a : ℕ) → ¬ IsTrue (is_in a (parties_of (diagram_in c) placed.atom)) → next_atoms c placed.out a ≡ []
        stays a no_party = nil_from_none (next_atoms c placed.out a)
            (λ n. same_tests _ _ (λ m. absurd (no_party (subst (λ xs. IsTrue (is_in a xs)) (sym (parties-same placed.atom)) (leads placed a n stand m).1))) (λ f. absurd (false≢true f)))

    -- the form of the diagram
    pub shaped-form : HasForm (diagram_in c)
    shaped-form = record {
      first_below = subst (λ n. first_number c < n) (atoms-count ∙ sym atoms-made) (shape_form c ok).declared.first;
      last_below = subst (λ n. last_number c < n) (atoms-count ∙ sym atoms-made) (shape_form c ok).declared.last;
      atoms = All-map (AtomFits (length (agent_names c))) (atom_in c) c.atoms (λ k d h. record {
        parties = subst (λ n. IsRisingBelow n (parties_in c (slice_index_or c.atoms k d).parties)) (sym agents-count) (parties_in-rises c (slice_index_or c.atoms k d).parties);
        some_party = some_party_in c (slice_index_or c.atoms k d).parties ((shape_form c ok).some_party k d h) ((shape_form c ok).declared.parties k d h) agents-count;
      });
      some_outcome = λ n h. let same : 0 + n ≡ n = omega arith in subst (λ m. outcomes_from 0 (diagram_in c).outcomes m ≢ []) same (some_number c 0 0 n c.atoms (shape_form c ok).some_outcome (subst (λ m. n < m) atoms-made h));
      all_begin = λ a h. subst (λ xs. IsTrue (is_in a xs)) (sym (parties-same (first_number c))) ((shape_form c ok).all_begin a (subst (λ m. a < m) agents-count h));
      all_end = λ a h. subst (λ xs. IsTrue (is_in a xs)) (sym (parties-same (last_number c))) ((shape_form c ok).all_end a (subst (λ m. a < m) agents-count h));
      outcomes = All-map (OutcomeLeads (diagram_in c)) (outcome_in c) (all_outs c) (λ k d h.
          outcome-leads (slice_index_or (all_outs c) k d) (let w = (outs-within 0 c.atoms k d h).1 in omega (arith, w)) ((shape_form c ok).all_sent k d h) ((shape_form c ok).declared.next_atoms k d h) ((shape_form c ok).no_stranger k d h) ((shape_form c ok).last_ends k d h));
    }

    -- the tables of its outcomes
    shaped-tables : All (λ outcome. TableFits (sizes_in c) (parties_of (diagram_in c) outcome.atom) outcome.table) (diagram_in c).outcomes
    shaped-tables = All-map (λ (outcome : PlainOutcome). TableFits (sizes_in c) (parties_of (diagram_in c) outcome.atom) outcome.table) (outcome_in c) (all_outs c) (λ k d h.
        let placed = slice_index_or (all_outs c) k d in
        subst (λ ps. TableFits (sizes_in c) ps (outcome_in c placed).table) (sym (parties-same placed.atom))
        (table_in-fits c (parties_at c placed.atom) placed.out (cases_in-named c (parties_at c placed.atom) placed.out.cases ((shape_form c ok).parties_alone k d h)) ((shape_form c ok).below k d h) ((ok AllCovered) k d h)))

    sizes-count : length (sizes_in c) ≡ length (agent_names c)
    sizes-count = length-map c.agents (λ (agent : AgentContent). agent.size) ∙ sym agents-count

    -- it is a diagram
    pub shaped-diagram : IsDiagram (diagram_in c)
    shaped-diagram = diagram_from_form (diagram_in c) shaped-form sizes-count (All-weaker (λ size. (0 < size) × (size ≤ 64)) (λ size. 0 < size) (λ size p. p.0) (sizes_in c) (shape_form c ok).sizes.each) shaped-tables

    -- within the limits
    pub shaped-limits : IsWithinLimits (diagram_in c)
    shaped-limits = record {
      few_agents = subst (λ n. n ≤ 16) (sym agents-count) (shape_form c ok).few_agents;
      few_atoms = subst (λ n. n ≤ 64) (sym atoms-made) (shape_form c ok).few_atoms;
      few_outcomes = subst (λ n. n ≤ 256) (sym (length-map (all_outs c) (outcome_in c))) (shape_form c ok).few_outcomes;
      sizes = (shape_form c ok).sizes;
    }

    -- with names
    pub shaped-names : HasNameWords c → HasNames (diagram_in c)
    shaped-names named = record {
      agents = All-map (λ name. IsTrue (is_name name)) (λ (agent : AgentContent). agent.name) c.agents named.agents;
      atoms = All-map (λ (atom : PlainAtom). IsTrue (is_name atom.name)) (atom_in c) c.atoms named.atoms;
      outcomes = All-map (λ (outcome : PlainOutcome). IsTrue (is_name outcome.name)) (outcome_in c) (all_outs c) (All-outs (λ out. IsTrue (is_name out.name)) 0 c.atoms named.outcomes);
      agents_differ = (shape_form c ok).named_once.agents;
      atoms_differ = AllPairs-map (λ (m n : PlainAtom). m.name ≢ n.name) (atom_in c) c.atoms (AllPairs-unmap (λ m n. m ≢ n) (λ (atom : AtomContent). atom.name) c.atoms (shape_form c ok).named_once.atoms);
      outcomes_differ = AllPairs-map (λ (o p : PlainOutcome). o.atom ≡ p.atom → o.name ≢ p.name) (outcome_in c) (all_outs c) (outs-differ 0 c.atoms (shape_form c ok).named_once.outcomes);
    }

    -- and its outcomes stand in order
    pub shaped-order : AreInOrder (diagram_in c).outcomes
    shaped-order = nondecreasing (λ (o : PlainOutcome). o.atom) (diagram_in c).outcomes (AllPairs-map (λ (o p : PlainOutcome). o.atom ≤ p.atom) (outcome_in c) (all_outs c) (outs-in_order 0 c.atoms))

    -- parts of it, of which each atom has the numbers of its outcomes, are those of a diagram that the program takes
    pub shaped-parts : HasNameWords c → (parts : Parts) → plain_of parts ≡ diagram_in c → parts.atoms ≡ parts_from c 0 c.atoms → AreParts parts
    shaped-parts named parts is made = record {
      diagram = subst IsDiagram (sym is) shaped-diagram;
      limits = subst IsWithinLimits (sym is) shaped-limits;
      names = subst HasNames (sym is) (shaped-names named);
      order = subst (λ (d : PlainDiagram). AreInOrder d.outcomes) (sym is) shaped-order;
      numbers = λ n part at.
          let same : 0 + n ≡ n = omega arith in
          numbers c 0 0 n c.atoms part (subst (λ (ps : List AtomPart). slice_get ps n ≡ Some part) made at)
          ∙ ap (λ m. outcomes_from 0 (diagram_in c).outcomes m) same
          ∙ ap (λ (d : PlainDiagram). outcomes_from 0 d.outcomes n) (sym is);
    }
