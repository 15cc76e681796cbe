-- When plain data are a diagram, by what is asked of each atom and of each outcome.
use Rattle.std.proofs.Common.{◌≡◌, ◌≢◌, ◌⊎◌, ℕ, ◌<◌, List, [], length, slice_index_or, IsTrue, sym, subst, ◌∙◌}
use Rattle.std.proofs.lemmas.Option.{slice_get-get_or}
use Rattle.std.specs.List.{All}
use Rattle.nego_base.specs.Members.{is_in, IsRising, IsRisingBelow}
use Rattle.nego_base.proofs.Members.{All-member}
use Rattle.nego_base.proofs.ListLaws.{All-at}
use Rattle.nego_data.specs.Data.{data_count}
use Rattle.nego_data.specs.Locality.{ActsOn}
use Rattle.nego_data.specs.Tables.{IsTable, is_related}
use Rattle.nego_data.proofs.Acting.{ActsOn-same}
use Rattle.nego_model.specs.Negotiation.{IsOutcome, IsNegotiation}
use Rattle.nego_model.specs.Joining.{By}
use Rattle.nego_model.specs.Diagram.{PlainAtom, PlainOutcome, PlainDiagram, IsDiagram, negotiation_of, parties_of, outcomes_from, nexts_of, relation_of}
use Rattle.nego_model.proofs.diagrams.Negotiations.{atom-below, atom_from_below, outcome_at, same_atom, rising-atoms, rising-outcomes, parties_of-at, nexts_of-at, relation_of-at}

-- The parties of an atom are a rising list of agents, and there is one.
pub record AtomFits (agents : ℕ) (atom : PlainAtom) : Type 0 where
  pub parties : IsRisingBelow agents atom.parties
  pub some_party : atom.parties ≢ []

-- What is asked of an outcome where it stands among these: its atom is one; after an outcome of the last atom nobody
-- has next atoms, after another its parties have some, and those who are no parties have none; next atoms are rising
-- and have the agent as a party.
pub record OutcomeLeads (diagram : PlainDiagram) (outcome : PlainOutcome) : Type 0 where
  pub own_atom : outcome.atom < length diagram.atoms
  pub rise : (a : ℕ) → IsRising (slice_index_or outcome.nexts a [])
  pub last_ends : outcome.atom ≡ diagram.last → (a : ℕ) → slice_index_or outcome.nexts a [] ≡ []
  pub others_lead : outcome.atom ≢ diagram.last → (a : ℕ) → IsTrue (is_in a (parties_of diagram outcome.atom)) → slice_index_or outcome.nexts a [] ≢ []
  pub strangers_stay : (a : ℕ) → IsTrue (is_in a (parties_of diagram outcome.atom)) ⊎ (slice_index_or outcome.nexts a [] ≡ [])
  pub next_party : (a m : ℕ) → IsTrue (is_in m (slice_index_or outcome.nexts a [])) → (m < length diagram.atoms) × IsTrue (is_in a (parties_of diagram m))

-- The form of a diagram, atom by atom and outcome by outcome.
pub record HasForm (diagram : PlainDiagram) : Type 0 where
  pub first_below : diagram.first < length diagram.atoms
  pub last_below : diagram.last < length diagram.atoms
  pub atoms : All (AtomFits (length diagram.agents)) diagram.atoms
  pub some_outcome : (n : ℕ) → n < length diagram.atoms → outcomes_from 0 diagram.outcomes n ≢ []
  pub all_begin : (a : ℕ) → a < length diagram.agents → IsTrue (is_in a (parties_of diagram diagram.first))
  pub all_end : (a : ℕ) → a < length diagram.agents → IsTrue (is_in a (parties_of diagram diagram.last))
  pub outcomes : All (OutcomeLeads diagram) diagram.outcomes

-- What is asked of an outcome's table: it is one, it relates each joint data to some, and it reads and changes the
-- values of the parties alone.
pub record TableFits (sizes parties : List ℕ) (table : List (List ℕ)) : Type 0 where
  pub is_table : IsTable (data_count sizes) table
  pub total : (d : ℕ) → d < data_count sizes → (e : ℕ) × IsTrue (is_related table d e)
  pub acts : ActsOn sizes parties (λ d e. IsTrue (is_related table d e))

module _ (diagram : PlainDiagram) where
  -- the parties of an atom are a rising list of agents, and there is one
  parties_fit : All (AtomFits (length diagram.agents)) diagram.atoms → (n : ℕ) → n < length diagram.atoms → IsRisingBelow (length diagram.agents) (parties_of diagram n) × (parties_of diagram n ≢ [])
  parties_fit h n below =
      let none : PlainAtom = record { name = []; parties = [] } in
      let at = slice_get-get_or diagram.atoms n none below in
      let fits = h n none below in
      let P : List ℕ → Type 0 = λ xs. IsRisingBelow (length diagram.agents) xs × (xs ≢ []) in
      subst P (sym (parties_of-at diagram n (slice_index_or diagram.atoms n none) at)) (fits.parties, fits.some_party)

  module _ (h : HasForm diagram) where
    -- an outcome of an atom is what is asked of it
    leads : (n o : ℕ) (k : IsOutcome (negotiation_of diagram) n o) → OutcomeLeads diagram (outcome_at diagram n o k).outcome
    leads n o k = let r = outcome_at diagram n o k in All-at (OutcomeLeads diagram) diagram.outcomes o r.outcome h.outcomes r.at

    -- its next atoms
    nexts : (n o a : ℕ) (k : IsOutcome (negotiation_of diagram) n o) → slice_index_or (outcome_at diagram n o k).outcome.nexts a [] ≡ nexts_of diagram o a
    nexts n o a k = let r = outcome_at diagram n o k in sym (nexts_of-at diagram o a r.outcome r.at)

    -- the diagram is a negotiation
    pub negotiation_from_form : IsNegotiation (negotiation_of diagram)
    negotiation_from_form = record {
      first_there = atom_from_below diagram diagram.first h.first_below;
      last_there = atom_from_below diagram diagram.last h.last_below;
      atoms_rise = rising-atoms diagram;
      parties_rise = λ n k. (parties_fit h.atoms n (atom-below diagram n k)).0.rising;
      outcomes_rise = λ n k. rising-outcomes diagram n;
      next_rise = λ n o a k. subst IsRising (nexts n o a k) ((leads n o k).rise a);
      one_atom = same_atom diagram;
      party_below = λ n a k m. All-member (λ x. x < length diagram.agents) a (parties_of diagram n) (parties_fit h.atoms n (atom-below diagram n k)).0.below m;
      some_party = λ n k. (parties_fit h.atoms n (atom-below diagram n k)).1;
      some_outcome = λ n k. h.some_outcome n (atom-below diagram n k);
      all_begin = h.all_begin;
      all_end = h.all_end;
      last_ends = λ o a k. sym (nexts diagram.last o a k) ∙ (leads diagram.last o k).last_ends (outcome_at diagram diagram.last o k).of_atom a;
      others_lead = λ n o a k other m.
          let r = outcome_at diagram n o k in
          subst (λ xs. xs ≢ []) (nexts n o a k)
          ((leads n o k).others_lead (λ e. other (sym r.of_atom ∙ e)) a (subst (λ x. IsTrue (is_in a (parties_of diagram x))) (sym r.of_atom) m));
      strangers_stay = λ n o a k.
          let r = outcome_at diagram n o k in
          subst (λ xs. IsTrue (is_in a (parties_of diagram n)) ⊎ (xs ≡ [])) (nexts n o a k)
          (subst (λ x. IsTrue (is_in a (parties_of diagram x)) ⊎ (slice_index_or r.outcome.nexts a [] ≡ [])) r.of_atom ((leads n o k).strangers_stay a));
      next_party = λ n o a m k q.
          let p = (leads n o k).next_party a m (subst (λ xs. IsTrue (is_in m xs)) (sym (nexts n o a k)) q) in
          (atom_from_below diagram m p.0, p.1);
    }

    -- plain data of this form, with tables that fit, are a diagram
    pub diagram_from_form : length diagram.sizes ≡ length diagram.agents → All (λ size. 0 < size) diagram.sizes →
        All (λ outcome. TableFits diagram.sizes (parties_of diagram outcome.atom) outcome.table) diagram.outcomes → IsDiagram diagram
    diagram_from_form sized some_value tables = record {
      form = negotiation_from_form;
      own_atom = λ k d below. (h.outcomes k d below).own_atom;
      sized = sized;
      some_value = some_value;
      tables = λ k d below. (tables k d below).is_table;
      total = λ n o d k below.
          let r = outcome_at diagram n o k in
          let t = (fits n o k).total d below in
          (t.0, relation_of-at diagram o d t.0 r.outcome r.at ∙ t.1);
      local = λ n o k.
          let r = outcome_at diagram n o k in
          ActsOn-same diagram.sizes (parties_of diagram n) (λ d e. IsTrue (is_related r.outcome.table d e)) (λ d e. By (relation_of diagram) o d e)
          (λ d e. (λ q. relation_of-at diagram o d e r.outcome r.at ∙ q, λ q. sym (relation_of-at diagram o d e r.outcome r.at) ∙ q))
          (subst (λ x. ActsOn diagram.sizes (parties_of diagram x) (λ d e. IsTrue (is_related r.outcome.table d e))) r.of_atom (fits n o k).acts);
    }
      where
        fits : (n o : ℕ) (k : IsOutcome (negotiation_of diagram) n o) →
            TableFits diagram.sizes (parties_of diagram (outcome_at diagram n o k).outcome.atom) (outcome_at diagram n o k).outcome.table
        fits n o k =
            let r = outcome_at diagram n o k in
            All-at (λ outcome. TableFits diagram.sizes (parties_of diagram outcome.atom) outcome.table) diagram.outcomes o r.outcome tables r.at
