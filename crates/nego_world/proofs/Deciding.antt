-- Deciding is allowed, however the event ends.
use Rattle.std.proofs.Common.{◌≡◌, ◌≢◌, ◌⊎◌, ⊎_elim, ℕ, zero, suc, ◌<◌, ◌==◌, ◌||◌, Bool, true, false, cond, nat_le, List, [], ◌∷◌, ◌++◌, length, map, slice_index_or, Option, Some, None, inl, inr, IsTrue, refl, sym, ap, subst, ◌∙◌, arith, eq-eqb}
use Rattle.std.proofs.lemmas.Bool.{cond-true}
use Rattle.std.proofs.lemmas.Option.{same_Some, none-some}
use Rattle.std.proofs.lemmas.List.Folds.{list_any-append}
use Rattle.std.proofs.lemmas.List.{length-map}
use Rattle.std.proofs.Math.ListN.{get_or-map}
use Rattle.std.specs.List.{Contains, list_any}
use Rattle.std.specs.Option.{option_map_or, option_to_list}
use Rattle.nego_base.specs.Members.{is_in}
use Rattle.nego_base.proofs.Members.{in_or_not, All-member}
use Rattle.nego_model.specs.Negotiation.{IsDeterministic}
use Rattle.nego_model.specs.Occurring.{moved, ready, enables}
use Rattle.nego_model.specs.Joining.{Entry, By}
use Rattle.nego_model.specs.Diagram.{PlainDiagram, IsDiagram, negotiation_of, relation_of, parties_of, leader_of}
use Rattle.nego_model.proofs.occurrence.Steps.{after_from}
use Rattle.nego_model.proofs.occurrence.Markings.{enables_from}
use Rattle.nego_model.proofs.occurrence.Histories.{History-then}
use Rattle.nego_model.proofs.diagrams.Readers.{first_member, parties-below}
use Rattle.agent_msg.specs.Messages.{ReadyMessage, DecideMessage, Message, ReadyOf, DecideOf}
use Rattle.agent_msg.specs.Records.{Share, Moved, Decided, decide_of}
use Rattle.agent_msg.specs.Records as journal
use Rattle.agent_core.specs.declared.choice.Choice.{Choice}
use Rattle.agent_core.specs.Agents.{PlainAgent, nothing_held, held_from}
use Rattle.agent_core.specs.Acts.{has_visit}
use Rattle.agent_core.specs.Deciding.{value_in, decision_by, unless_from, without_from, decides_of, deciding, share_at}
use Rattle.agent_core.specs.Worlds.{PlainWorld, Ending, GoesOn, StopsBefore, StopsAfter, agent_of, deed_by, after_deed}
use Rattle.agent_core.specs.Agreement.{visits, share_in, record_of, journal_of, Agrees, IsHistoryOf}
use Rattle.agent_core.specs.Consistency.{IsHeld, IsConsistent}
use Rattle.agent_core.proofs.Decisions.{MayDecide, map-members}
use Rattle.agent_core.proofs.Numbers.{false_from}
use Rattle.agent_core.proofs.Valid.{none-held, same_or_not, unless_from-some}
use Rattle.agent_core.proofs.Shares.{Contains-tail}
use Rattle.nego_world.proofs.Journals.{journal_of-party, journal_of-other}
use Rattle.nego_world.proofs.Left.{left-history}
use Rattle.nego_world.proofs.Sent.{Contains-last, sent-kept, others-after}
use Rattle.nego_world.proofs.Standing.{leader-party}
use Rattle.nego_world.proofs.Agents.{agrees-each, valid-each, id-each}
use Rattle.nego_world.proofs.Giving.{decide-names}
use Rattle.nego_world.proofs.Moves.{moved-record}
use Rattle.nego_world.proofs.Knowing.{knows-party, leader-whole}
use Rattle.nego_world.proofs.Chosen.{outcome, data_chosen, decision_shares, data_next, outcome-chosen, related-next, value-party, share-other}
use Rattle.nego_world.proofs.Keeping.{IsAllowed, actor}
use Rattle.nego_world.proofs.Deeds.{none-sent, stopping-allowed}

-- an item of two lists is of the one or of the other
pub Contains-parts : {A : Type 0} (xs ys : List A) (x : A) → Contains (xs ++ ys) x → Contains xs x ⊎ Contains ys x
Contains-parts [] ys x c = inr c
Contains-parts (y ∷ xs) ys x (zero, lt, e) = inl (0, omega arith, e)
Contains-parts (y ∷ xs) ys x (suc k, lt, e) = ⊎_elim (λ c. inl (Contains-tail y xs x c)) (λ c. inr c) (Contains-parts xs ys x (k, omega (arith, lt), e))

-- what a leader sends of a decision tells it
pub sends-told : (leader : ℕ) (parties : List ℕ) (decision : journal.PlainRecord) (decide : DecideMessage) → Contains (decides_of leader parties decision) (DecideOf decide) → (to : ℕ) × (decide_of leader to decision ≡ Some decide)
sends-told leader [] decision decide c = none-sent (DecideOf decide) c
sends-told leader (p ∷ parties) decision decide c =
    ⊎_elim (λ k. one (decide_of leader p decision) refl k) (λ k. sends-told leader parties decision decide k)
    (Contains-parts (map DecideOf (option_to_list (decide_of leader p decision))) (decides_of leader parties decision) (DecideOf decide) c)
  where
    same : (d e : DecideMessage) → DecideOf d ≡ DecideOf e → d ≡ e
    same d e h = cc

    one : (o : Option DecideMessage) → decide_of leader p decision ≡ o → Contains (map DecideOf (option_to_list o)) (DecideOf decide) → (to : ℕ) × (decide_of leader to decision ≡ Some decide)
    one None e k = none-sent (DecideOf decide) k
    one (Some d) e (zero, lt, h) = (p, e ∙ ap (λ x. Some x) (same d decide h))
    one (Some d) e (suc k, lt, h) = absurd (omega (arith, lt))

-- and is no Ready
pub sends-no_ready : {A : Type 0} (leader : ℕ) (parties : List ℕ) (decision : journal.PlainRecord) (ready : ReadyMessage) → Contains (decides_of leader parties decision) (ReadyOf ready) → A
sends-no_ready leader [] decision ready c = none-sent (ReadyOf ready) c
sends-no_ready {A} leader (p ∷ parties) decision ready c =
    ⊎_elim (λ k. one (decide_of leader p decision) k) (λ k. sends-no_ready leader parties decision ready k)
    (Contains-parts (map DecideOf (option_to_list (decide_of leader p decision))) (decides_of leader parties decision) (ReadyOf ready) c)
  where
    apart : (d : DecideMessage) → DecideOf d ≡ ReadyOf ready → ⊥
    apart d h = cc

    one : (o : Option DecideMessage) → Contains (map DecideOf (option_to_list o)) (ReadyOf ready) → A
    one None k = none-sent (ReadyOf ready) k
    one (Some d) (zero, lt, h) = absurd (apart d h)
    one (Some d) (suc k, lt, h) = absurd (omega (arith, lt))

-- a Ready that isn't dropped is from none of these agents
pub unless_from-other : (agents : List ℕ) (slot : Option ReadyMessage) (r : ReadyMessage) → unless_from agents slot ≡ Some r → is_in r.from agents ≡ false
unless_from-other agents None r h = absurd (none-some r h)
unless_from-other agents (Some other) r h = go (is_in other.from agents) refl h
  where
    go : (b : Bool) → is_in other.from agents ≡ b → cond b None (Some other) ≡ Some r → is_in r.from agents ≡ false
    go true e k = absurd (none-some r k)
    go false e k = subst (λ x. is_in x.from agents ≡ false) (same_Some other r k) e

module _ (diagram : PlainDiagram) (ok : IsDiagram diagram) (single : IsDeterministic (negotiation_of diagram)) (world : PlainWorld) (was : IsConsistent diagram world) (l n : ℕ) (known : l < length diagram.agents) (may : MayDecide diagram (agent_of diagram world l) n) (choice : Choice) where
  abbrev agent : PlainAgent
  agent = agent_of diagram world l

  abbrev shares : List Share
  shares = decision_shares diagram ok single world was l n known may choice

  abbrev next_data : ℕ
  next_data = data_next diagram ok single world was l n known may choice

  abbrev chosen_outcome : ℕ
  chosen_outcome = outcome diagram ok single world was l n known may choice

  abbrev decision : journal.PlainRecord
  decision = decision_by diagram agent n choice

  abbrev entry : Entry
  entry = record { step = (n, chosen_outcome); joint = next_data }

  below : (p : ℕ) → is_in p (parties_of diagram n) ≡ true → p < length diagram.agents
  below p party = All-member (λ a. a < length diagram.agents) p (parties_of diagram n) (parties-below diagram ok n ((valid-each diagram ok single world was l known).place n may.at)) party

  leads : leader_of diagram n ≡ l
  leads = may.leads ∙ id-each diagram ok single world was l known

  -- the history with the decision is one
  history-decided : IsHistoryOf diagram world.start (world.history ++ entry ∷ [])
  history-decided =
      let nego = negotiation_of diagram in
      let left = left-history diagram ok world.start was.start l known world.history was.journals.run in
      let enabled : IsTrue (enables nego left.0 n) = enables_from nego left.0 n (outcome-chosen diagram ok single world was l n known may choice).0
      (λ p party.
      let k = knows-party diagram ok single world was l n known may p party in
      let there = left-history diagram ok world.start was.start p (below p party) world.history was.journals.run in
      let same : there.0 ≡ left.0 = same_Some there.0 left.0 (sym there.1 ∙ left.1) in
      subst (λ m. IsTrue (is_in n (ready m p))) same (first_member (ready there.0 p) n (sym there.2.at ∙ k.at))) in
      History-then nego (By (relation_of diagram)) world.start world.history left.0 (moved 0 (parties_of diagram n) (nego.next chosen_outcome) left.0) entry was.journals.run left.1
      (after_from nego left.0 (n, chosen_outcome) enabled (outcome-chosen diagram ok single world was l n known may choice).1) (related-next diagram ok single world was l n known may choice)

  -- the decision is the leader's record of its entry
  decision-record : decision ≡ record_of diagram world.history entry l
  decision-record =
      ap (λ ss. Decided n chosen_outcome ss) (map-members (share_at diagram agent n (data_chosen diagram ok single world was l n known may choice)) (share_in diagram world.history entry) (parties_of diagram n)
      (λ p party.
      let k = knows-party diagram ok single world was l n known may p party in
      let visit = ap (λ o. option_map_or (λ ready. ready.visit) o 0) k.known ∙ k.visit in
      ap {B = Share} (λ v. record { agent = p; visit = v; after = value_in diagram (data_chosen diagram ok single world was l n known may choice) p }) visit
      ∙ ap {B = Share} (λ v. record { agent = p; visit = visits diagram p world.history; after = v }) (sym (value-party diagram ok single world was l n known may choice p (below p party) party))))
      ∙ sym (cond-true (leader_of diagram n == l) (Decided n chosen_outcome (map (share_in diagram world.history entry) (parties_of diagram n))) (Moved n chosen_outcome (value_in diagram next_data l)) (eq-eqb (leader_of diagram n) l leads))

  leader-own : is_in l (parties_of diagram n) ≡ true
  leader-own = subst (λ a. is_in a (parties_of diagram n) ≡ true) leads (leader-party diagram n ok (outcome-chosen diagram ok single world was l n known may choice).0)

  -- each journal agrees with it, where the leader's has the decision
  agrees-decided : (b : ℕ) → b < length diagram.agents → b ≢ l → Agrees diagram (world.history ++ entry ∷ []) b (agent_of diagram world b).records
  agrees-decided b lt other =
      ⊎_elim
      (λ party.
      let k = knows-party diagram ok single world was l n known may b party in
      inr (
        n,
        chosen_outcome,
        value_in diagram next_data b,
        ap (λ rs. rs ++ Moved n chosen_outcome (value_in diagram next_data b) ∷ []) k.whole
            ∙ (ap (λ x. journal_of diagram world.history b ++ x ∷ []) (sym (moved-record diagram world.history entry b (λ e. other (sym e ∙ leads)))) ∙ sym (journal_of-party diagram b world.history entry party)),
      ))
      (λ absent.
      let same = journal_of-other diagram b world.history entry (false_from (is_in b (parties_of diagram n)) absent) in
      subst (λ rs. ((agent_of diagram world b).records ≡ rs) ⊎ ((m o after : ℕ) × ((agent_of diagram world b).records ++ Moved m o after ∷ [] ≡ rs))) (sym same) (agrees-each diagram ok single world was b lt))
      (in_or_not b (parties_of diagram n))

  -- recording the decision is allowed
  pub decision-allowed : (held : List (Option ReadyMessage)) (sends : List Message) → length held ≡ 16 → ((p : ℕ) (r : ReadyMessage) → slice_index_or held p None ≡ Some r → IsHeld diagram world l p r × (is_in r.from (parties_of diagram n) ≡ false)) →
      ((decide : DecideMessage) → Contains sends (DecideOf decide) → (to : ℕ) × (decide_of agent.id to decision ≡ Some decide)) → ((r : ReadyMessage) → Contains sends (ReadyOf r) → ⊥) →
      IsAllowed diagram world (record { agent = l; act = record { kept = Some decision; held = held; sends = sends } })
  decision-allowed held sends room holds tells no_ready = record {
    known = known;
    room = room;
    history = history-decided;
    agrees = λ b lt. ⊎_elim
        (λ (e : b ≡ l). subst (λ c. Agrees diagram (world.history ++ entry ∷ []) c (agent_of diagram (after_deed diagram world (record { agent = l; act = record { kept = Some decision; held = held; sends = sends } })) c).records) (sym e) (inl whole))
        (λ other. subst (λ rs. Agrees diagram (world.history ++ entry ∷ []) b rs) (sym (ap (λ g. g.records) (others-after diagram world (record { agent = l; act = record { kept = Some decision; held = held; sends = sends } }) b other))) (agrees-decided b lt other))
        (same_or_not b l);
    held = λ p r h.
        let old = holds p r h in
        let none : has_visit p (nat_le r.visit) decision ≡ false =
        ap (λ o. option_map_or (λ s. nat_le r.visit s.visit) o false) (share-other (share_at diagram agent n (data_chosen diagram ok single world was l n known may choice)) (λ q. refl) p (parties_of diagram n) (subst (λ q. is_in q (parties_of diagram n) ≡ false) old.0.from old.1)) in
        record {
          sent = sent-kept sends world.sent (ReadyOf r) old.0.sent;
          from = old.0.from;
          to = old.0.to;
          undecided = ap (list_any (has_visit p (nat_le r.visit))) grown
              ∙ (list_any-append (has_visit p (nat_le r.visit)) agent.records (decision ∷ []) ∙ (ap (λ b. b || (has_visit p (nat_le r.visit) decision || false)) old.0.undecided ∙ ap (λ b. b || false) none));
        };
    readies = λ r c. absurd (no_ready r c);
    decides = λ decide c.
        let t = tells decide c in
        let names = decide-names agent.id t.0 decision decide t.1 in
        let from : decide.from ≡ l = names.0 ∙ id-each diagram ok single world was l known in
        record {
          sender = subst (λ b. b < length diagram.agents) (sym from) known;
          decision = decision;
          recorded = subst (λ b. Contains (agent_of diagram (after_deed diagram world (record { agent = l; act = record { kept = Some decision; held = held; sends = sends } })) b).records decision) (sym from)
              (subst (λ rs. Contains rs decision) (sym grown) (Contains-last agent.records decision));
          told = ap (λ b. decide_of b decide.to decision) names.0 ∙ (ap (λ b. decide_of agent.id b decision) names.1 ∙ t.1);
        };
  }
    where
      grown : (agent_of diagram (after_deed diagram world (record { agent = l; act = record { kept = Some decision; held = held; sends = sends } })) l).records ≡ agent.records ++ decision ∷ []
      grown = ap (λ g. g.records) (actor diagram world (record { agent = l; act = record { kept = Some decision; held = held; sends = sends } }) was known)

      whole : (agent_of diagram (after_deed diagram world (record { agent = l; act = record { kept = Some decision; held = held; sends = sends } })) l).records ≡ journal_of diagram (world.history ++ entry ∷ []) l
      whole =
          grown
          ∙ (ap (λ rs. rs ++ decision ∷ []) (leader-whole diagram ok single world was l n known may.at leads)
          ∙ (ap (λ x. journal_of diagram world.history l ++ x ∷ []) decision-record ∙ sym (journal_of-party diagram l world.history entry leader-own)))

  -- deciding is allowed, however the event ends
  pub deciding-allowed : (ending : Ending) → IsAllowed diagram world (deed_by l ending (deciding diagram agent n choice))
  deciding-allowed StopsBefore = stopping-allowed diagram world l was known
  deciding-allowed StopsAfter = decision-allowed nothing_held [] refl (λ p r h. absurd (none-held p r h)) (λ decide c. none-sent (DecideOf decide) c) (λ r c. none-sent (ReadyOf r) c)
  deciding-allowed GoesOn =
      decision-allowed (without_from (parties_of diagram n) agent.held) (decides_of agent.id (parties_of diagram n) decision) (length-map agent.held (unless_from (parties_of diagram n)) ∙ (was.agents l known).room)
      (λ p r h.
      let slot : unless_from (parties_of diagram n) (held_from agent p) ≡ Some r = sym (get_or-map (unless_from (parties_of diagram n)) agent.held p None) ∙ h in
      (was.held l p r known (unless_from-some (parties_of diagram n) (held_from agent p) r slot), unless_from-other (parties_of diagram n) (held_from agent p) r slot))
      (λ decide c. sends-told agent.id (parties_of diagram n) decision decide c) (λ r c. sends-no_ready agent.id (parties_of diagram n) decision r c)
