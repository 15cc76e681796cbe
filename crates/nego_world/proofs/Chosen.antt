-- The joint data after a decision.
use Rattle.std.proofs.Common.{◌≡◌, ⊎_elim, ℕ, ◌<◌, ◌==◌, ◌||◌, Bool, true, false, cond, List, [], ◌∷◌, length, map, slice_index, Some, None, IsTrue, refl, sym, ap, subst, ◌∙◌, arith, eqb-true}
use Rattle.std.proofs.lemmas.Bool.{false≢true}
use Rattle.std.proofs.lemmas.List.FromFn.{get_or-map-range_with_len, length-map-range_with_len}
use Rattle.std.specs.List.{range_with_len}
use Rattle.std.specs.Option.{option_map_or}
use Rattle.nego_base.specs.Members.{is_in}
use Rattle.nego_base.proofs.Members.{in_or_not}
use Rattle.nego_data.specs.Data.{data_count, joint}
use Rattle.nego_data.proofs.JointData.{AreValues, split-below, joint-below, split-joint}
use Rattle.nego_model.specs.Negotiation.{IsDeterministic, IsOutcome}
use Rattle.nego_model.specs.Joining.{By, joint_after}
use Rattle.nego_model.specs.Diagram.{PlainDiagram, IsDiagram, negotiation_of, relation_of, parties_of}
use Rattle.nego_model.proofs.diagrams.Negotiations.{atom_from_below}
use Rattle.agent_msg.specs.Records.{Share}
use Rattle.agent_core.specs.declared.choice.Choice.{Choice}
use Rattle.agent_core.specs.Agents.{size_of, share_of}
use Rattle.agent_core.specs.Deciding.{value_in, known_of, known_joint, related_by, open_outcomes, chosen_outcome, chosen_joint, share_at}
use Rattle.agent_core.specs.Worlds.{PlainWorld, agent_of, changed}
use Rattle.agent_core.specs.Consistency.{IsConsistent}
use Rattle.agent_core.proofs.Decisions.{MayDecide}
use Rattle.agent_core.proofs.Known.{known-below}
use Rattle.agent_core.proofs.Numbers.{false_from}
use Rattle.agent_core.proofs.Open.{picked-member, open-outcome, some_open, related-row}
use Rattle.nego_model.proofs.occurrence.Histories.{joint_after-below, history_leaves}
use Rattle.nego_model.specs.Occurring.{opening_marking}
use Rattle.nego_world.proofs.Agents.{valid-each}
use Rattle.nego_world.proofs.Knowing.{knows-party}

-- a party has its share
pub share-party : (f : ℕ → Share) → ((q : ℕ) → (f q).agent ≡ q) → (p : ℕ) (parties : List ℕ) → is_in p parties ≡ true → share_of p (map f parties) ≡ Some (f p)
share-party f own p [] h = absurd (false≢true h)
share-party f own p (q ∷ parties) h = go (q == p) refl (share-party f own p parties)
  where
    go : (b : Bool) → (q == p) ≡ b → (is_in p parties ≡ true → share_of p (map f parties) ≡ Some (f p)) → share_of p (map f (q ∷ parties)) ≡ Some (f p)
    go true e rest = ap (λ b. cond b (Some (f q)) (share_of p (map f parties))) (ap (λ a. a == p) (own q) ∙ e) ∙ ap (λ x. Some (f x)) (eqb-true q p e)
    go false e rest = ap (λ b. cond b (Some (f q)) (share_of p (map f parties))) (ap (λ a. a == p) (own q) ∙ e) ∙ rest (sym (ap (λ b. b || is_in p parties) e) ∙ h)

-- another has none
pub share-other : (f : ℕ → Share) → ((q : ℕ) → (f q).agent ≡ q) → (p : ℕ) (parties : List ℕ) → is_in p parties ≡ false → share_of p (map f parties) ≡ None
share-other f own p [] h = refl
share-other f own p (q ∷ parties) h = go (q == p) refl (share-other f own p parties)
  where
    go : (b : Bool) → (q == p) ≡ b → (is_in p parties ≡ false → share_of p (map f parties) ≡ None) → share_of p (map f (q ∷ parties)) ≡ None
    go true e rest = absurd (false≢true (sym h ∙ ap (λ b. b || is_in p parties) e))
    go false e rest = ap (λ b. cond b (Some (f q)) (share_of p (map f parties))) (ap (λ a. a == p) (own q) ∙ e) ∙ rest (sym (ap (λ b. b || is_in p parties) e) ∙ h)

module _ (diagram : PlainDiagram) (ok : IsDiagram diagram) where
  -- the joint data with a value below each agent's size
  abbrev pub with_values : (ℕ → ℕ) → ℕ
  with_values f = joint diagram.sizes (map f (range_with_len 0 (length diagram.agents)))

  values-are : (f : ℕ → ℕ) → ((a : ℕ) → a < length diagram.agents → f a < size_of diagram a) → AreValues diagram.sizes (map f (range_with_len 0 (length diagram.agents)))
  values-are f below = record {
    as_many = length-map-range_with_len f 0 (length diagram.agents) ∙ sym ok.sized;
    below = λ a lt. let known : a < length diagram.agents = omega (arith, lt, ok.sized) in
        subst (λ v. v < size_of diagram a) (sym (get_or-map-range_with_len f 0 (length diagram.agents) a a 0 known (omega arith))) (below a known);
  }

  pub with_values-below : (f : ℕ → ℕ) → ((a : ℕ) → a < length diagram.agents → f a < size_of diagram a) → with_values f < data_count diagram.sizes
  with_values-below f below = joint-below diagram.sizes (map f (range_with_len 0 (length diagram.agents))) (values-are f below)

  -- each agent has its value there
  pub value-there : (f : ℕ → ℕ) → ((a : ℕ) → a < length diagram.agents → f a < size_of diagram a) → (a : ℕ) → a < length diagram.agents → value_in diagram (with_values f) a ≡ f a
  value-there f below a known =
      ap (λ xs. slice_index xs a) (split-joint diagram.sizes (map f (range_with_len 0 (length diagram.agents))) (values-are f below))
      ∙ get_or-map-range_with_len f 0 (length diagram.agents) a a 0 known (omega arith)

module _ (diagram : PlainDiagram) (ok : IsDiagram diagram) (single : IsDeterministic (negotiation_of diagram)) (world : PlainWorld) (was : IsConsistent diagram world) (l n : ℕ) (known : l < length diagram.agents) (may : MayDecide diagram (agent_of diagram world l) n) (choice : Choice) where
  abbrev pub data_known : ℕ
  data_known = known_joint diagram (agent_of diagram world l) n

  abbrev pub data_now : ℕ
  data_now = joint_after world.start world.history

  abbrev pub outcome : ℕ
  outcome = chosen_outcome diagram n data_known choice

  abbrev pub data_chosen : ℕ
  data_chosen = chosen_joint diagram n data_known choice

  abbrev pub decision_shares : List Share
  decision_shares = map (share_at diagram (agent_of diagram world l) n data_chosen) (parties_of diagram n)

  abbrev pub data_next : ℕ
  data_next = changed diagram data_now decision_shares

  atom : n < length diagram.atoms
  atom = (valid-each diagram ok single world was l known).place n may.at

  value-known-below : (a : ℕ) → a < length diagram.agents → option_map_or (λ ready. ready.value) (known_of diagram (agent_of diagram world l) n a) 0 < size_of diagram a
  value-known-below a lt = known-below diagram (agent_of diagram world l) n a (valid-each diagram ok single world was l known) (ok.some_value a 0 (omega (arith, lt, ok.sized)))

  known-in_range : data_known < data_count diagram.sizes
  known-in_range = with_values-below diagram ok (λ p. option_map_or (λ ready. ready.value) (known_of diagram (agent_of diagram world l) n p) 0) value-known-below

  pub now-in_range : data_now < data_count diagram.sizes
  now-in_range =
      let left = history_leaves (negotiation_of diagram) (By (relation_of diagram)) world.start world.history was.journals.run in
      joint_after-below (negotiation_of diagram) diagram.sizes (By (relation_of diagram)) ok.local world.history world.start (opening_marking (negotiation_of diagram)) left.0 was.start left.1 was.journals.run.related

  open-chosen : (0 < length (related_by diagram outcome data_known)) × IsTrue (is_in outcome ((negotiation_of diagram).outcomes n))
  open-chosen = open-outcome diagram n data_known outcome (picked-member (open_outcomes diagram n data_known) choice.outcome (some_open diagram n data_known ok atom known-in_range))

  -- the outcome is one of the atom's
  pub outcome-chosen : IsOutcome (negotiation_of diagram) n outcome
  outcome-chosen = (atom_from_below diagram n atom, open-chosen.1)

  related-chosen : IsTrue (relation_of diagram outcome data_known data_chosen)
  related-chosen = related-row diagram outcome data_known data_chosen ∙ picked-member (related_by diagram outcome data_known) choice.pick open-chosen.0

  chosen-in_range : data_chosen < data_count diagram.sizes
  chosen-in_range = (ok.local n outcome outcome-chosen).stays data_known data_chosen known-in_range related-chosen

  -- the value of an agent after the decision
  abbrev value_next : ℕ → ℕ
  value_next a = option_map_or (λ s. s.after) (share_of a decision_shares) (value_in diagram data_now a)

  next-party : (a : ℕ) → is_in a (parties_of diagram n) ≡ true → value_next a ≡ value_in diagram data_chosen a
  next-party a party = ap (λ o. option_map_or (λ s. s.after) o (value_in diagram data_now a)) (share-party (share_at diagram (agent_of diagram world l) n data_chosen) (λ q. refl) a (parties_of diagram n) party)

  next-other : (a : ℕ) → is_in a (parties_of diagram n) ≡ false → value_next a ≡ value_in diagram data_now a
  next-other a other = ap (λ o. option_map_or (λ s. s.after) o (value_in diagram data_now a)) (share-other (share_at diagram (agent_of diagram world l) n data_chosen) (λ q. refl) a (parties_of diagram n) other)

  value_next-below : (a : ℕ) → a < length diagram.agents → value_next a < size_of diagram a
  value_next-below a lt =
      let sized : a < length diagram.sizes = omega (arith, lt, ok.sized) in
      ⊎_elim
      (λ party. subst (λ v. v < size_of diagram a) (sym (next-party a party)) (split-below diagram.sizes data_chosen a chosen-in_range sized))
      (λ absent. subst (λ v. v < size_of diagram a) (sym (next-other a (false_from (is_in a (parties_of diagram n)) absent))) (split-below diagram.sizes data_now a now-in_range sized))
      (in_or_not a (parties_of diagram n))

  next-in_range : data_next < data_count diagram.sizes
  next-in_range = with_values-below diagram ok value_next value_next-below

  -- a party has the value that was chosen
  pub value-party : (a : ℕ) → a < length diagram.agents → is_in a (parties_of diagram n) ≡ true → value_in diagram data_next a ≡ value_in diagram data_chosen a
  value-party a lt party = value-there diagram ok value_next value_next-below a lt ∙ next-party a party

  -- the outcome relates the data before the decision to the data after it
  pub related-next : IsTrue (relation_of diagram outcome data_now data_next)
  related-next =
      (ok.local n outcome outcome-chosen).reads data_known data_chosen data_now data_next known-in_range related-chosen now-in_range next-in_range
      (λ a lt party.
      let below : a < length diagram.agents = omega (arith, lt, ok.sized) in
      let k = knows-party diagram ok single world was l n known may a party in
      value-there diagram ok (λ p. option_map_or (λ ready. ready.value) (known_of diagram (agent_of diagram world l) n p) 0) value-known-below a below
      ∙ (ap (λ o. option_map_or (λ ready. ready.value) o 0) k.known ∙ k.value))
      (λ a lt party. let below : a < length diagram.agents = omega (arith, lt, ok.sized) in sym (value-party a below party))
      (λ a lt absent.
      let below : a < length diagram.agents = omega (arith, lt, ok.sized) in
      sym (value-there diagram ok value_next value_next-below a below ∙ next-other a (false_from (is_in a (parties_of diagram n)) absent)))
