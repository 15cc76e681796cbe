-- A diagram of one agent and one atom with one outcome is a diagram, and what a summary of one node tells of it.
use Rattle.std.proofs.Common.{◌≡◌, ◌≢◌, ◌↔◌, ◌⊎◌, inl, inr, ⊎_elim, ℕ, zero, suc, ◌<◌, List, [], ◌∷◌, ◌++◌, slice_index, slice_index_or, Some, IsTrue, refl, sym, subst, ap, ◌∙◌, arith, div-one}
use Rattle.std.proofs.lemmas.Option.{same_Some, none-some}
use Rattle.std.proofs.lemmas.List.Elements.{All-nil, All-cons}
use Rattle.std.specs.List.{All}
use Rattle.nego_base.specs.Members.{is_in, IsRising}
use Rattle.nego_model.specs.Negotiation.{Negotiation, IsNegotiation, IsOutcome}
use Rattle.nego_model.specs.Occurring.{PlainMarking, Occurrence, after, leaves, opening_marking, final_marking, IsComplete, IsSound, CanOccur}
use Rattle.nego_model.specs.Joining.{Relation, By, Joins, Runs}
use Rattle.nego_data.specs.Data.{data_count}
use Rattle.nego_model.specs.Diagram.{PlainDiagram, negotiation_of, relation_of, IsDiagram}
use Rattle.nego_data.specs.Locality.{ActsOn}
use Rattle.nego_data.specs.Tables.{IsTable}
use Rattle.nego_model.specs.Expression.{Base, children, IsNodeList, Means}
use Rattle.nego_model.specs.Summary.{PlainSummary, Tells}
use Rattle.nego_base.proofs.Members.{is_in_single, is_in_none}
use Rattle.nego_model.proofs.occurrence.Markings.{enables-atom, enables-party}
use Rattle.nego_model.proofs.occurrence.Steps.{after-some, after-outcome, leaves-first, run_leaves}
use Rattle.nego_model.proofs.expressions.Bases.{AllBases_one}
use Rattle.nego_model.proofs.occurrence.Joined.{Joins_one, related_from_one}
use Rattle.nego_model.proofs.occurrence.CompleteRuns.{opening_not_final}
use Rattle.nego_data.proofs.Tables.{row-on_data}

-- one agent of this size, and one atom, first and last, with one outcome of this table
abbrev pub one_atom : List ℕ → ℕ → List ℕ → List ℕ → List (List ℕ) → PlainDiagram
one_atom agent size atom outcome table = record {
  agents = agent ∷ [];
  sizes = size ∷ [];
  atoms = record { name = atom; parties = 0 ∷ [] } ∷ [];
  outcomes = record { name = outcome; atom = 0; nexts = [] ∷ []; table = table } ∷ [];
  first = 0;
  last = 0;
}

-- the summary whose one final outcome is an outcome of the diagram
abbrev pub one_base : List ℕ → PlainSummary
one_base outcome = record { nodes = Base 0 ∷ []; finals = record { name = outcome; node = 0 } ∷ [] }

module _ (agent : List ℕ) (size : ℕ) (atom outcome : List ℕ) (table : List (List ℕ)) where
  abbrev nego : Negotiation
  nego = negotiation_of (one_atom agent size atom outcome table)

  -- there is one atom
  atom_zero : (n : ℕ) → IsTrue (is_in n nego.atoms) → n ≡ 0
  atom_zero n h = is_in_single n 0 h

  -- there is one outcome
  outcome_zero : (n o : ℕ) → IsOutcome nego n o → o ≡ 0
  outcome_zero n o h = is_in_single o 0 (subst (λ m. IsTrue (is_in o (nego.outcomes m))) (atom_zero n h.0) h.1)

  -- a property of the one atom and outcome is one of each
  at_outcome : (P : ℕ → ℕ → Type 0) → P 0 0 → (n o : ℕ) → IsOutcome nego n o → P n o
  at_outcome P h n o k = subst (λ m. P m o) (sym (atom_zero n k.0)) (subst (P 0) (sym (outcome_zero n o k)) h)

  -- a property of the one atom is one of each
  at_atom : (P : ℕ → Type 0) → P 0 → (n : ℕ) → IsTrue (is_in n nego.atoms) → P n
  at_atom P h n k = subst P (sym (atom_zero n k)) h

  -- there is one agent, who is a party
  party_zero : (a : ℕ) → a < nego.agents → IsTrue (is_in a (0 ∷ []))
  party_zero a h = let e : a ≡ 0 = omega (arith, h) in subst (λ b. IsTrue (is_in b (0 ∷ []))) (sym e) refl

  -- no agent has a next atom
  no_next : (a : ℕ) → nego.next 0 a ≡ []
  no_next zero = refl
  no_next (suc a) = refl

  one_atom_negotiation : IsNegotiation nego
  one_atom_negotiation = record {
    first_there = refl;
    last_there = refl;
    atoms_rise = (omega arith, tt);
    parties_rise = at_atom (λ n. IsRising (nego.parties n)) (omega arith, tt);
    outcomes_rise = at_atom (λ n. IsRising (nego.outcomes n)) (omega arith, tt);
    next_rise = λ n o a h. at_outcome (λ m p. IsRising (nego.next p a)) (subst IsRising (sym (no_next a)) tt) n o h;
    one_atom = λ m n o h k. atom_zero m h.0 ∙ sym (atom_zero n k.0);
    party_below = λ n a h k.
        let e : a ≡ 0 = is_in_single a 0 (subst (λ m. IsTrue (is_in a (nego.parties m))) (atom_zero n h) k) in omega arith;
    some_party = at_atom (λ n. nego.parties n ≢ []) (λ e. cc);
    some_outcome = at_atom (λ n. nego.outcomes n ≢ []) (λ e. cc);
    all_begin = party_zero;
    all_end = party_zero;
    last_ends = λ o a h. at_outcome (λ m p. nego.next p a ≡ []) (no_next a) 0 o h;
    others_lead = λ n o a h other p. absurd (other (atom_zero n h.0));
    strangers_stay = λ n o a h. inr (at_outcome (λ m p. nego.next p a ≡ []) (no_next a) n o h);
    next_party = λ n o a m h k. absurd (is_in_none m (nego.next o a) (at_outcome (λ q p. nego.next p a ≡ []) (no_next a) n o h) k);
  }

  -- nothing occurs in the final marking
  nothing_after : (step : Occurrence) (left : PlainMarking) → after nego (final_marking nego) step ≡ Some left → ⊥
  nothing_after step left e =
      let h = after-some nego (final_marking nego) step left e in
      let z = atom_zero step.0 (enables-atom nego (final_marking nego) step.0 h.0) in
      let p = enables-party nego (final_marking nego) step.0 0 h.0 (subst (λ n. IsTrue (is_in 0 (nego.parties n))) (sym z) refl) in
      is_in_none step.0 [] refl p

  -- what occurs in the opening marking is the one outcome, and it leaves the final marking
  first_step : (step : Occurrence) (left : PlainMarking) → after nego (opening_marking nego) step ≡ Some left → (step.0 ≡ 0) × (step.1 ≡ 0) × (left ≡ final_marking nego)
  first_step step left e =
      let o = after-outcome nego (opening_marking nego) step left e in
      let z = atom_zero step.0 o.0 in
      let y = outcome_zero step.0 step.1 o in
      let k : after nego (opening_marking nego) (0, 0) ≡ Some left =
      subst (λ p. after nego (opening_marking nego) (0, p) ≡ Some left) y (subst (λ n. after nego (opening_marking nego) (n, step.1) ≡ Some left) z e) in
      (z, y, sym (same_Some (final_marking nego) left k))

  -- a run that leaves the final marking is the one step
  one_step : (run : List Occurrence) (left : PlainMarking) → leaves nego (opening_marking nego) run ≡ Some left → (run ≡ []) ⊎ (run ≡ (0, 0) ∷ [])
  one_step [] left e = inl refl
  one_step (step ∷ []) left e =
      let h = leaves-first nego (opening_marking nego) step [] left e in
      let k = first_step step h.0 h.1 in
      inr (ap (λ n. (n, step.1) ∷ []) k.0 ∙ ap (λ o. (0, o) ∷ []) k.1)
  one_step (step ∷ next ∷ steps) left e =
      let h = leaves-first nego (opening_marking nego) step (next ∷ steps) left e in
      let k = first_step step h.0 h.1 in
      let l = leaves-first nego h.0 next steps left h.2 in
      absurd (nothing_after next l.0 (subst (λ m. after nego m next ≡ Some l.0) k.2 l.1))

  -- the one step is a complete run
  complete : IsComplete nego ((0, 0) ∷ [])
  complete = refl

  one_atom_sound : IsSound nego
  one_atom_sound = record {
    alive = at_atom (CanOccur nego) (record { run = []; marking = opening_marking nego; leads = refl; enabled = refl });
    completes = λ run h.
        let k = run_leaves nego (opening_marking nego) run h in
        ⊎_elim
        (λ e. ((0, 0) ∷ [], subst (λ r. IsComplete nego (r ++ (0, 0) ∷ [])) (sym e) complete))
        (λ e. ([], subst (λ r. IsComplete nego (r ++ [])) (sym e) complete))
        (one_step run k.0 k.1);
  }

  -- a complete run is the one step
  complete_is : (run : List Occurrence) → IsComplete nego run → run ≡ (0, 0) ∷ []
  complete_is run h = ⊎_elim (λ e. absurd (opening_not_final nego one_atom_negotiation (same_Some (opening_marking nego) (final_marking nego) (subst (IsComplete nego) e h)))) (λ e. e) (one_step run (final_marking nego) h)

  -- the runs that end with the outcome join what it relates
  joined : (relation : Relation) (d e : ℕ) → relation 0 d e ↔ Runs nego relation 0 d e
  joined relation d e = (
    λ h. record { run = (0, 0) ∷ []; complete = complete; ends = (0, ([], refl)); joins = Joins_one relation (0, 0) d e h },
    λ h. related_from_one relation (0, 0) d e (subst (λ run. Joins relation run d e) (complete_is h.run h.complete) h.joins),
  )

  -- the summary of one node tells the diagram
  pub one_base_tells : Tells (one_base outcome) (one_atom agent size atom outcome table)
  one_base_tells = record {
    formed = record { below = below; bases = AllBases_one (λ o. o < 1) (Base 0) (omega arith); there = there };
    sound = one_atom_sound;
    named = refl;
    each = each;
  }
    where
      below : IsNodeList (Base 0 ∷ [])
      below zero node e = subst (λ n. All (λ child. child < 0) (children n)) (same_Some (Base 0) node e) (All-nil (λ child. child < 0))
      below (suc i) node e = absurd (none-some node e)

      there : All (λ final. final.node < 1) (one_base outcome).finals
      there = All-cons (λ final. final.node < 1) (record { name = outcome; node = 0 }) [] (omega arith) (All-nil (λ final. final.node < 1))

      each : (k d e : ℕ) → k < 1 → d < data_count (size ∷ []) → e < data_count (size ∷ []) →
          Means (By (relation_of (one_atom agent size atom outcome table))) (Base 0 ∷ []) (slice_index (0 ∷ []) k) d e
          ↔ Runs nego (By (relation_of (one_atom agent size atom outcome table))) (slice_index (0 ∷ []) k) d e
      each zero d e h p q = joined (By (relation_of (one_atom agent size atom outcome table))) d e
      each (suc k) d e h p q = absurd (let no_more : ⊥ = omega (arith, h) in no_more)

  -- the diagram is one, where its table is a table in which each joint data is related to some
  pub one_atom_diagram : 0 < size → IsTable (data_count (size ∷ [])) table → ((d : ℕ) → d < data_count (size ∷ []) → (e : ℕ) × IsTrue (is_in e (slice_index_or table d []))) →
      IsDiagram (one_atom agent size atom outcome table)
  one_atom_diagram some_value table_ok total = record {
    form = one_atom_negotiation;
    own_atom = All-cons (λ o. o.atom < 1) (record { name = outcome; atom = 0; nexts = [] ∷ []; table = table }) [] (omega arith) (All-nil (λ o. o.atom < 1));
    sized = refl;
    some_value = All-cons (λ s. 0 < s) size [] some_value (All-nil (λ s. 0 < s));
    tables = All-cons (λ o. IsTable (data_count (size ∷ [])) o.table) (record { name = outcome; atom = 0; nexts = [] ∷ []; table = table }) [] table_ok
        (All-nil (λ o. IsTable (data_count (size ∷ [])) o.table));
    total = λ n o d h. at_outcome (λ m p. d < data_count (size ∷ []) → (e : ℕ) × IsTrue (relation_of (one_atom agent size atom outcome table) p d e)) (total d) n o h;
    local = at_outcome (λ m p. ActsOn (size ∷ []) (nego.parties m) (By (relation_of (one_atom agent size atom outcome table)) p)) acts;
  }
    where
      acts : ActsOn (size ∷ []) (0 ∷ []) (λ d e. IsTrue (is_in e (slice_index_or table d [])))
      acts = record {
        stays = λ d e h k. row-on_data (data_count (size ∷ [])) table d e table_ok h k;
        changes = λ d e h k a l other. absurd (other (party_zero a l));
        reads = λ d e d' e' h k h' k' on on' off.
            let p : d ≡ d' = sym (div-one d) ∙ (on 0 (omega arith) refl ∙ div-one d') in
            let q : e ≡ e' = sym (div-one e) ∙ (on' 0 (omega arith) refl ∙ div-one e') in
            subst (λ y. IsTrue (is_in y (slice_index_or table d' []))) q (subst (λ x. IsTrue (is_in e (slice_index_or table x []))) p k);
      }
