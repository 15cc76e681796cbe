-- Giving a message is allowed.
use Rattle.std.proofs.Common.{◌≡◌, ⊎_elim, ℕ, ◌≤◌, ◌==◌, ◌&&◌, ◌||◌, true, false, not, cond, nat_lt, nat_le, List, [], ◌∷◌, length, find, Option, Some, None, refl, sym, ap, ◌∙◌, arith, eqb-true, lt-ltb, leb-true}
use Rattle.std.proofs.lemmas.Bool.{false≢true, cases_lt}
use Rattle.std.proofs.lemmas.Option.{same_Some, none-some}
use Rattle.std.specs.List.{Contains, list_any}
use Rattle.std.specs.Option.{option_map, option_map_or}
use Rattle.nego_base.specs.Members.{is_in}
use Rattle.nego_base.proofs.Cases.{chosen}
use Rattle.nego_base.proofs.BoolLaws.{neither}
use Rattle.nego_model.specs.Diagram.{PlainDiagram, outcomes_from}
use Rattle.agent_msg.specs.Messages.{ReadyMessage, DecideMessage, Message, ReadyOf, DecideOf}
use Rattle.agent_msg.specs.Records.{Share, Moved, Decided, told, decide_of}
use Rattle.agent_msg.specs.Records as journal
use Rattle.agent_core.specs.Agents.{PlainAgent, size_of, share_of, shares_in, record_atom}
use Rattle.agent_core.specs.Acts.{Kept, Recorded, Again, Old, Stranger, is_leader, is_for, has_visit, answered_by, is_passed, is_awaited, given_ready, given_decide, given}
use Rattle.agent_core.proofs.Given.{both, unequal}
use Rattle.agent_core.proofs.Numbers.{false_from}
use Rattle.agent_core.proofs.Shares.{found}

-- neither this visit nor a greater one
later-none : (v u : ℕ) → (u == v) ≡ false → nat_lt v u ≡ false → nat_le v u ≡ false
later-none v u differ past =
    false_from (nat_le v u) (λ h. ⊎_elim (λ lt. false≢true (sym past ∙ lt-ltb v u lt)) (λ ge. let le : v ≤ u = leb-true v u h in unequal u v differ (omega (arith, le, ge))) (cases_lt v u))

-- no decision with the agent is on this visit or a greater one, where none is on it and none on a greater one
none-later : (p v : ℕ) (records : List journal.PlainRecord) → find (has_visit p (λ u. u == v)) records ≡ None → list_any (has_visit p (nat_lt v)) records ≡ false → list_any (has_visit p (nat_le v)) records ≡ false
none-later p v [] h k = refl
none-later p v (r ∷ rs) h k =
    ⊎_elim (λ x. absurd (none-some r (sym x.1)))
    (λ x. let n = neither (has_visit p (nat_lt v) r) (list_any (has_visit p (nat_lt v)) rs) k in
    ap (λ b. b || list_any (has_visit p (nat_le v)) rs) (one (share_of p (shares_in r)) x.0 n.0) ∙ none-later p v rs x.1 n.1)
    (chosen (has_visit p (λ u. u == v) r) (Some r) (find (has_visit p (λ u. u == v)) rs) None h)
  where
    one : (o : Option Share) → option_map_or (λ s. s.visit == v) o false ≡ false → option_map_or (λ s. nat_lt v s.visit) o false ≡ false → option_map_or (λ s. nat_le v s.visit) o false ≡ false
    one None a b = refl
    one (Some s) a b = later-none v s.visit a b

-- whom a Decide names
pub decide-names : (from to : ℕ) (r : journal.PlainRecord) (decide : DecideMessage) → decide_of from to r ≡ Some decide → (decide.from ≡ from) × (decide.to ≡ to)
decide-names from to (Moved n o after) decide h = absurd (none-some decide h)
decide-names from to (Decided n o shares) decide h =
    ⊎_elim (λ x. absurd (none-some decide x.1)) (λ x. one (share_of to shares) refl x.1) (chosen (to == from) None (option_map (told from n o) (find (λ s. s.agent == to) shares)) (Some decide) h)
  where
    one : (found_one : Option Share) → share_of to shares ≡ found_one → option_map (told from n o) found_one ≡ Some decide → (decide.from ≡ from) × (decide.to ≡ to)
    one None e k = absurd (none-some decide k)
    one (Some s) e k =
        let same : told from n o s ≡ decide = same_Some (told from n o s) decide k in
        (sym (ap (λ d. d.from) same), sym (ap (λ d. d.to) same) ∙ agent_there shares s e)
      where
        agent_there : (xs : List Share) (s : Share) → share_of to xs ≡ Some s → s.agent ≡ to
        agent_there xs s e = let f = found (λ s. s.agent == to) xs s e in eqb-true s.agent to f.1

-- the answers are five
stranger-kept : Stranger ≡ Kept → ⊥
stranger-kept e = cc

again-kept : (d : DecideMessage) → Again d ≡ Kept → ⊥
again-kept d e = cc

stranger-again : (d : DecideMessage) → Stranger ≡ Again d → ⊥
stranger-again d e = cc

kept-again : (d : DecideMessage) → Kept ≡ Again d → ⊥
kept-again d e = cc

old-again : (d : DecideMessage) → Old ≡ Again d → ⊥
old-again d e = cc

recorded-again : (r : journal.PlainRecord) (d : DecideMessage) → Recorded r ≡ Again d → ⊥
recorded-again r d e = cc

same-again : (d e : DecideMessage) → Again d ≡ Again e → d ≡ e
same-again d e h = cc

kept-recorded : (r : journal.PlainRecord) → Kept ≡ Recorded r → ⊥
kept-recorded r e = cc

stranger-recorded : (r : journal.PlainRecord) → Stranger ≡ Recorded r → ⊥
stranger-recorded r e = cc

old-recorded : (r : journal.PlainRecord) → Old ≡ Recorded r → ⊥
old-recorded r e = cc

again-recorded : (d : DecideMessage) (r : journal.PlainRecord) → Again d ≡ Recorded r → ⊥
again-recorded d r e = cc

same-recorded : (r s : journal.PlainRecord) → Recorded r ≡ Recorded s → r ≡ s
same-recorded r s h = cc

module _ (diagram : PlainDiagram) (agent : PlainAgent) where
  -- a Ready that is kept is one on which the agent hasn't decided, nor on a later one
  pub kept-undecided : (ready : ReadyMessage) → given diagram agent (ReadyOf ready) ≡ Kept → list_any (has_visit ready.from (nat_le ready.visit)) agent.records ≡ false
  kept-undecided ready h =
      ⊎_elim
      (λ a. ⊎_elim (λ b. absurd (stranger-kept b.1)) (λ b. one (find (has_visit ready.from (λ v. v == ready.visit)) agent.records) refl b.1)
      (chosen (not (is_for diagram agent ready)) Stranger (option_map_or (answered_by agent ready) (find (has_visit ready.from (λ v. v == ready.visit)) agent.records) (cond (is_passed agent ready) Stranger Kept)) Kept a.1))
      (λ a. absurd (stranger-kept a.1))
      (chosen (ready.to == agent.id) (given_ready diagram agent ready) Stranger Kept h)
    where
      answered : (r : journal.PlainRecord) → answered_by agent ready r ≡ Kept → ⊥
      answered r k =
          ⊎_elim (λ x. two (decide_of agent.id ready.from r) x.1) (λ x. stranger-kept x.1) (chosen (record_atom r == ready.atom) (option_map_or Again (decide_of agent.id ready.from r) Stranger) Stranger Kept k)
        where
          two : (o : Option DecideMessage) → option_map_or Again o Stranger ≡ Kept → ⊥
          two None k = stranger-kept k
          two (Some d) k = again-kept d k

      one : (o : Option journal.PlainRecord) → find (has_visit ready.from (λ v. v == ready.visit)) agent.records ≡ o → option_map_or (answered_by agent ready) o (cond (is_passed agent ready) Stranger Kept) ≡ Kept →
          list_any (has_visit ready.from (nat_le ready.visit)) agent.records ≡ false
      one (Some r) e k = absurd (answered r k)
      one None e k =
          ⊎_elim (λ x. absurd (stranger-kept x.1)) (λ x. none-later ready.from ready.visit agent.records e (neither (list_any (has_visit ready.from (nat_lt ready.visit)) agent.records) _ x.0).0)
          (chosen (is_passed agent ready) Stranger Kept Kept k)

  -- a Decide that is told again is one that the agent decided
  pub again-decided : (m : Message) (decide : DecideMessage) → given diagram agent m ≡ Again decide → (r : journal.PlainRecord) × (to : ℕ) × Contains agent.records r × (decide_of agent.id to r ≡ Some decide)
  again-decided (DecideOf d) decide h =
      ⊎_elim
      (λ a. ⊎_elim (λ b. absurd (old-again decide b.1))
      (λ b. ⊎_elim (λ c. absurd (recorded-again (Moved d.atom d.outcome d.after) decide c.1)) (λ c. absurd (stranger-again decide c.1)) (chosen (is_awaited diagram agent d) (Recorded (Moved d.atom d.outcome d.after)) Stranger (Again decide) b.1))
      (chosen (nat_lt d.visit (length agent.records)) Old (cond (is_awaited diagram agent d) (Recorded (Moved d.atom d.outcome d.after)) Stranger) (Again decide) a.1))
      (λ a. absurd (stranger-again decide a.1))
      (chosen (d.to == agent.id) (given_decide diagram agent d) Stranger (Again decide) h)
  again-decided (ReadyOf ready) decide h =
      ⊎_elim
      (λ a. ⊎_elim (λ b. absurd (stranger-again decide b.1)) (λ b. one (find (has_visit ready.from (λ v. v == ready.visit)) agent.records) refl b.1)
      (chosen (not (is_for diagram agent ready)) Stranger (option_map_or (answered_by agent ready) (find (has_visit ready.from (λ v. v == ready.visit)) agent.records) (cond (is_passed agent ready) Stranger Kept)) (Again decide) a.1))
      (λ a. absurd (stranger-again decide a.1))
      (chosen (ready.to == agent.id) (given_ready diagram agent ready) Stranger (Again decide) h)
    where
      two : (o : Option DecideMessage) → option_map_or Again o Stranger ≡ Again decide → o ≡ Some decide
      two None k = absurd (stranger-again decide k)
      two (Some d) k = ap (λ x. Some x) (same-again d decide k)

      one : (o : Option journal.PlainRecord) → find (has_visit ready.from (λ v. v == ready.visit)) agent.records ≡ o → option_map_or (answered_by agent ready) o (cond (is_passed agent ready) Stranger Kept) ≡ Again decide →
          (r : journal.PlainRecord) × (to : ℕ) × Contains agent.records r × (decide_of agent.id to r ≡ Some decide)
      one None e k = ⊎_elim (λ x. absurd (stranger-again decide x.1)) (λ x. absurd (kept-again decide x.1)) (chosen (is_passed agent ready) Stranger Kept (Again decide) k)
      one (Some r) e k =
          ⊎_elim (λ x. (r, ready.from, (found (has_visit ready.from (λ v. v == ready.visit)) agent.records r e).0, two (decide_of agent.id ready.from r) x.1)) (λ x. absurd (stranger-again decide x.1))
          (chosen (record_atom r == ready.atom) (option_map_or Again (decide_of agent.id ready.from r) Stranger) Stranger (Again decide) k)

  -- what is recorded of a message is the move of a Decide that the agent waits for
  pub recorded-awaited : (m : Message) (r : journal.PlainRecord) → given diagram agent m ≡ Recorded r → (decide : DecideMessage) × (m ≡ DecideOf decide) × (r ≡ Moved decide.atom decide.outcome decide.after) × (is_awaited diagram agent decide ≡ true)
  recorded-awaited (DecideOf d) r h =
      ⊎_elim
      (λ a. ⊎_elim (λ b. absurd (old-recorded r b.1))
      (λ b. ⊎_elim (λ c. (d, refl, sym (same-recorded (Moved d.atom d.outcome d.after) r c.1), c.0)) (λ c. absurd (stranger-recorded r c.1)) (chosen (is_awaited diagram agent d) (Recorded (Moved d.atom d.outcome d.after)) Stranger (Recorded r) b.1))
      (chosen (nat_lt d.visit (length agent.records)) Old (cond (is_awaited diagram agent d) (Recorded (Moved d.atom d.outcome d.after)) Stranger) (Recorded r) a.1))
      (λ a. absurd (stranger-recorded r a.1))
      (chosen (d.to == agent.id) (given_decide diagram agent d) Stranger (Recorded r) h)
  recorded-awaited (ReadyOf ready) r h =
      ⊎_elim
      (λ a. ⊎_elim (λ b. absurd (stranger-recorded r b.1)) (λ b. absurd (one (find (has_visit ready.from (λ v. v == ready.visit)) agent.records) b.1))
      (chosen (not (is_for diagram agent ready)) Stranger (option_map_or (answered_by agent ready) (find (has_visit ready.from (λ v. v == ready.visit)) agent.records) (cond (is_passed agent ready) Stranger Kept)) (Recorded r) a.1))
      (λ a. absurd (stranger-recorded r a.1))
      (chosen (ready.to == agent.id) (given_ready diagram agent ready) Stranger (Recorded r) h)
    where
      two : (o : Option DecideMessage) → option_map_or Again o Stranger ≡ Recorded r → ⊥
      two None k = stranger-recorded r k
      two (Some d) k = again-recorded d r k

      one : (o : Option journal.PlainRecord) → option_map_or (answered_by agent ready) o (cond (is_passed agent ready) Stranger Kept) ≡ Recorded r → ⊥
      one None k = ⊎_elim (λ x. stranger-recorded r x.1) (λ x. kept-recorded r x.1) (chosen (is_passed agent ready) Stranger Kept (Recorded r) k)
      one (Some s) k =
          ⊎_elim (λ x. two (decide_of agent.id ready.from s) x.1) (λ x. stranger-recorded r x.1)
          (chosen (record_atom s == ready.atom) (option_map_or Again (decide_of agent.id ready.from s) Stranger) Stranger (Recorded r) k)

  -- with a Decide that the agent waits for it has as many records as the visit
  pub awaited-visit : (decide : DecideMessage) → is_awaited diagram agent decide ≡ true → decide.visit ≡ length agent.records
  awaited-visit decide h =
      let visit = decide.visit == length agent.records in
      let at = option_map_or (λ n. n == decide.atom) agent.at false in
      let led = not (is_leader diagram agent.id decide.atom) in
      let from = is_leader diagram decide.from decide.atom in
      let own = is_in decide.outcome (outcomes_from 0 diagram.outcomes decide.atom) in
      eqb-true decide.visit (length agent.records)
      (both visit at (both (visit && at) led (both (visit && at && led) from (both (visit && at && led && from) own (both (visit && at && led && from && own) (nat_lt decide.after (size_of diagram agent.id)) h).0).0).0).0).0
