-- Giving a message is allowed, however the event ends.
use Rattle.std.proofs.Common.{◌≡◌, ◌≢◌, ⊎_elim, ℕ, zero, suc, ◌<◌, ◌==◌, ◌||◌, true, false, cond, nat_le, List, [], ◌∷◌, ◌++◌, length, slice_get, slice_index_or, Option, Some, None, IsTrue, inl, refl, sym, ap, subst, ◌∙◌, arith, eqb-true, append_assoc, length-append}
use Rattle.std.proofs.lemmas.Bool.{cond-false}
use Rattle.std.proofs.lemmas.Option.{same_Some}
use Rattle.std.proofs.lemmas.List.{length-set}
use Rattle.std.proofs.lemmas.List.Folds.{list_any-append}
use Rattle.std.proofs.Math.Bool.{or-false}
use Rattle.std.specs.List.{Contains, list_any}
use Rattle.nego_base.specs.Members.{is_in}
use Rattle.nego_base.proofs.Members.{All-member}
use Rattle.nego_model.specs.Negotiation.{IsDeterministic}
use Rattle.nego_model.specs.Joining.{Entry, By, steps_of}
use Rattle.nego_model.specs.Diagram.{PlainDiagram, IsDiagram, negotiation_of, relation_of, parties_of, leader_of}
use Rattle.nego_model.specs.Occurring.{leaves, opening_marking}
use Rattle.nego_model.proofs.occurrence.Steps.{after-outcome, leaves_before}
use Rattle.nego_model.proofs.occurrence.Histories.{steps_of-append, history_leaves, History-front}
use Rattle.nego_model.proofs.diagrams.Negotiations.{atom_from_below, atom-below}
use Rattle.nego_model.proofs.diagrams.Readers.{parties-below}
use Rattle.agent_msg.specs.Messages.{ReadyMessage, DecideMessage, Message, ReadyOf, DecideOf}
use Rattle.agent_msg.specs.Records.{Moved, Decided, decide_of}
use Rattle.agent_msg.specs.Records as journal
use Rattle.agent_core.specs.Agents.{PlainAgent, nothing_held}
use Rattle.agent_core.specs.Acts.{Given, Kept, Recorded, Again, Old, Stranger, has_visit, is_awaited, given, held_with, taking}
use Rattle.agent_core.specs.Deciding.{value_in}
use Rattle.agent_core.specs.Worlds.{PlainWorld, Ending, GoesOn, StopsBefore, StopsAfter, Deed, agent_of, deed_by, addressee, given_act, after_deed}
use Rattle.agent_core.specs.Agreement.{visits, record_of, records_behind, journal_of, Agrees, IsHistoryOf}
use Rattle.agent_core.specs.Consistency.{WasTold, WasDecided, IsHeld, IsConsistent}
use Rattle.agent_core.proofs.Given.{awaited_step}
use Rattle.agent_core.proofs.Numbers.{false_from}
use Rattle.agent_core.proofs.Valid.{held-with, none-held, same_or_not}
use Rattle.nego_world.proofs.Journals.{records_behind-append, length-records}
use Rattle.nego_world.proofs.Sent.{others-after}
use Rattle.nego_world.proofs.Standing.{leader-party}
use Rattle.nego_world.proofs.Steps.{at_seam}
use Rattle.nego_world.proofs.Agents.{agrees-each, valid-each, id-each, decided_entry, telling_of, well-at}
use Rattle.nego_world.proofs.Keeping.{IsAllowed, actor, quiet}
use Rattle.nego_world.proofs.Deeds.{none-sent, stopping-allowed}
use Rattle.nego_world.proofs.Giving.{decide-names, kept-undecided, again-decided, recorded-awaited, awaited-visit}

-- another's record of an entry is its move
pub moved-record : (diagram : PlainDiagram) (front : List Entry) (entry : Entry) (a : ℕ) → leader_of diagram entry.step.0 ≢ a → record_of diagram front entry a ≡ Moved entry.step.0 entry.step.1 (value_in diagram entry.joint a)
moved-record diagram front entry a led =
    cond-false (leader_of diagram entry.step.0 == a) _ _ (false_from (leader_of diagram entry.step.0 == a) (λ h. led (eqb_is h)))
  where
    eqb_is : (leader_of diagram entry.step.0 == a) ≡ true → leader_of diagram entry.step.0 ≡ a
    eqb_is h = Rattle.std.proofs.Common.eqb-true (leader_of diagram entry.step.0) a h

-- the move of an entry completes a journal that agrees and lacks the agent's record of it
pub completed : (diagram : PlainDiagram) (front rest : List Entry) (entry : Entry) (a : ℕ) (records : List journal.PlainRecord) → Agrees diagram (front ++ entry ∷ rest) a records → is_in a (parties_of diagram entry.step.0) ≡ true → visits diagram a front ≡ length records →
    records ++ record_of diagram front entry a ∷ [] ≡ journal_of diagram (front ++ entry ∷ rest) a
completed diagram front rest entry a records agrees party count =
    let here = record_of diagram front entry a in
    let later = records_behind diagram a (front ++ entry ∷ []) rest in
    let gives : journal_of diagram (front ++ entry ∷ rest) a ≡ journal_of diagram front a ++ here ∷ later =
    records_behind-append diagram a [] front (entry ∷ rest) ∙ ap (λ b. journal_of diagram front a ++ cond b (here ∷ later) later) party in
    let before : length (journal_of diagram front a) ≡ length records = length-records diagram a [] front ∙ count in
    ⊎_elim
    (λ same. absurd (omega (arith, ap length same, ap length gives, length-append (journal_of diagram front a) (here ∷ later), before)))
    (λ more.
    let moved = Moved more.0 more.1 more.2 in
    let one : moved ≡ here = same_Some moved here (sym (at_seam records [] moved) ∙ (ap (λ rs. slice_get rs (length records)) (more.3 ∙ gives) ∙ (ap (slice_get (journal_of diagram front a ++ here ∷ later)) (sym before) ∙ at_seam (journal_of diagram front a) later here))) in
    ap (λ x. records ++ x ∷ []) (sym one) ∙ more.3)
    agrees

module _ (diagram : PlainDiagram) (ok : IsDiagram diagram) (single : IsDeterministic (negotiation_of diagram)) (world : PlainWorld) (was : IsConsistent diagram world) where
  -- the addressee of a message that was sent is one of the diagram's agents
  pub addressee-below : (m : Message) → Contains world.sent m → addressee m < length diagram.agents
  addressee-below (ReadyOf ready) c =
      let told = was.readies ready c in
      let t = telling_of diagram world ready told in
      let below = (well-at diagram ok single world was ready.from ready.visit told.sender).valid.place ready.atom t.at in
      let leader = leader-party diagram ready.atom ok (atom_from_below diagram ready.atom below) in
      subst (λ a. a < length diagram.agents) t.leads (All-member (λ a. a < length diagram.agents) (leader_of diagram ready.atom) (parties_of diagram ready.atom) (parties-below diagram ok ready.atom below) leader)
  addressee-below (DecideOf decide) c =
      let e = decided_entry diagram ok single world was decide (was.decides decide c) in
      let parts = History-occurs e.0 e.2 e.1 (subst (λ es. IsHistoryOf diagram world.start es) e.3 was.journals.run) in
      All-member (λ a. a < length diagram.agents) decide.to (parties_of diagram e.1.step.0) (parties-below diagram ok e.1.step.0 (atom-below diagram e.1.step.0 parts)) e.4.party
    where
      History-occurs : (front rest : List Entry) (entry : Entry) → IsHistoryOf diagram world.start (front ++ entry ∷ rest) → IsTrue (is_in entry.step.0 (negotiation_of diagram).atoms)
      History-occurs front rest entry h =
          let nego = negotiation_of diagram in
          let more = History-front nego (By (relation_of diagram)) world.start (front ++ entry ∷ []) rest (subst (λ es. IsHistoryOf diagram world.start es) (sym (append_assoc front (entry ∷ []) rest)) h) in
          let next = history_leaves nego (By (relation_of diagram)) world.start (front ++ entry ∷ []) more in
          let between = leaves_before nego (opening_marking nego) (steps_of front) entry.step next.0 (ap (leaves nego (opening_marking nego)) (sym (steps_of-append front (entry ∷ []))) ∙ next.1) in
          (after-outcome nego between.0 entry.step next.0 between.2).0

  -- recording the move of a Decide that the agent waits for is allowed
  pub move-allowed : (decide : DecideMessage) (held : List (Option ReadyMessage)) → decide.to < length diagram.agents → Contains world.sent (DecideOf decide) → is_awaited diagram (agent_of diagram world decide.to) decide ≡ true → length held ≡ 16 →
      ((p : ℕ) (ready : ReadyMessage) → slice_index_or held p None ≡ Some ready → IsHeld diagram world decide.to p ready) →
      IsAllowed diagram world (record { agent = decide.to; act = record { kept = Some (Moved decide.atom decide.outcome decide.after); held = held; sends = [] } })
  move-allowed decide held known sent awaited room holds = record {
    known = known;
    room = room;
    history = was.journals.run;
    agrees = λ b below. ⊎_elim
        (λ (e : b ≡ decide.to). subst (λ c. Agrees diagram world.history c (agent_of diagram (after_deed diagram world deed) c).records) (sym e) (subst (λ rs. Agrees diagram world.history decide.to rs) (sym grown) (inl whole)))
        (λ other. subst (λ rs. Agrees diagram world.history b rs) (sym (ap (λ g. g.records) (others-after diagram world deed b other))) (agrees-each diagram ok single world was b below))
        (same_or_not b decide.to);
    held = λ p ready h. let old = holds p ready h in record {
      sent = old.sent;
      from = old.from;
      to = old.to;
      undecided = ap (list_any (has_visit p (nat_le ready.visit))) grown
          ∙ (list_any-append (has_visit p (nat_le ready.visit)) agent.records (move ∷ []) ∙ (or-false (list_any (has_visit p (nat_le ready.visit)) agent.records) ∙ old.undecided));
    };
    readies = λ ready c. none-sent (ReadyOf ready) c;
    decides = λ decide c. none-sent (DecideOf decide) c;
  }
    where
      agent : PlainAgent
      agent = agent_of diagram world decide.to

      move : journal.PlainRecord
      move = Moved decide.atom decide.outcome decide.after

      deed : Deed
      deed = record { agent = decide.to; act = record { kept = Some (Moved decide.atom decide.outcome decide.after); held = held; sends = [] } }

      grown : (agent_of diagram (after_deed diagram world (record { agent = decide.to; act = record { kept = Some (Moved decide.atom decide.outcome decide.after); held = held; sends = [] } })) decide.to).records ≡ (agent_of diagram world decide.to).records ++ Moved decide.atom decide.outcome decide.after ∷ []
      grown =
          ap (λ g. g.records) (actor diagram world (record { agent = decide.to; act = record { kept = Some (Moved decide.atom decide.outcome decide.after); held = held; sends = [] } }) was known)

      whole : (agent_of diagram world decide.to).records ++ Moved decide.atom decide.outcome decide.after ∷ [] ≡ journal_of diagram world.history decide.to
      whole =
          let found = decided_entry diagram ok single world was decide (was.decides decide sent) in
          let front = found.0 in
          let entry = found.1 in
          let tells = found.4 in
          let step = awaited_step diagram (agent_of diagram world decide.to) decide (valid-each diagram ok single world was decide.to known) awaited in
          let led : leader_of diagram entry.step.0 ≢ decide.to = λ (e : leader_of diagram entry.step.0 ≡ decide.to). step.led (ap (leader_of diagram) tells.atom ∙ (e ∙ sym (id-each diagram ok single world was decide.to known))) in
          let count : visits diagram decide.to front ≡ length (agent_of diagram world decide.to).records = sym tells.visit ∙ awaited-visit diagram (agent_of diagram world decide.to) decide awaited in
          let agrees = subst (λ es. Agrees diagram es decide.to (agent_of diagram world decide.to).records) found.3 (agrees-each diagram ok single world was decide.to known) in
          let all = completed diagram front found.2 entry decide.to (agent_of diagram world decide.to).records agrees tells.party count in
          let same : Moved decide.atom decide.outcome decide.after ≡ record_of diagram front entry decide.to =
          ap (λ n. Moved n decide.outcome decide.after) tells.atom ∙ (ap (λ o. Moved entry.step.0 o decide.after) tells.outcome ∙ (ap (λ v. Moved entry.step.0 entry.step.1 v) tells.after ∙ sym (moved-record diagram front entry decide.to led))) in
          ap (λ x. (agent_of diagram world decide.to).records ++ x ∷ []) same ∙ (all ∙ ap (λ es. journal_of diagram es decide.to) (sym found.3))

  -- doing nothing but to send what was decided is allowed
  sending-allowed : (a : ℕ) (sends : List Message) → a < length diagram.agents → ((ready : ReadyMessage) → Contains sends (ReadyOf ready) → WasTold diagram world ready) → ((decide : DecideMessage) → Contains sends (DecideOf decide) → WasDecided diagram world decide) →
      IsAllowed diagram world (record { agent = a; act = record { kept = None; held = (agent_of diagram world a).held; sends = sends } })
  sending-allowed a sends known told decided = quiet diagram world a (agent_of diagram world a).held sends was known (was.agents a known).room (λ p ready h. was.held a p ready known h) told decided

  -- recording what is recorded of a message is allowed
  recording-allowed : (m : Message) → Contains world.sent m → addressee m < length diagram.agents → (r : journal.PlainRecord) → given diagram (agent_of diagram world (addressee m)) m ≡ Recorded r → (held : List (Option ReadyMessage)) → length held ≡ 16 →
      ((p : ℕ) (ready : ReadyMessage) → slice_index_or held p None ≡ Some ready → IsHeld diagram world (addressee m) p ready) → IsAllowed diagram world (record { agent = addressee m; act = record { kept = Some r; held = held; sends = [] } })
  recording-allowed m sent known r e held room holds = go m (recorded-awaited diagram (agent_of diagram world (addressee m)) m r e) sent known holds
    where
      go : (m : Message) → ((decide : DecideMessage) × (m ≡ DecideOf decide) × (r ≡ Moved decide.atom decide.outcome decide.after) × (is_awaited diagram (agent_of diagram world (addressee m)) decide ≡ true)) → Contains world.sent m → addressee m < length diagram.agents →
          ((p : ℕ) (ready : ReadyMessage) → slice_index_or held p None ≡ Some ready → IsHeld diagram world (addressee m) p ready) → IsAllowed diagram world (record { agent = addressee m; act = record { kept = Some r; held = held; sends = [] } })
      go m (decide, same, is, awaited) sent known holds =
          let P : Message → Type 0 = λ n. is_awaited diagram (agent_of diagram world (addressee n)) decide ≡ true → Contains world.sent n → addressee n < length diagram.agents →
          ((p : ℕ) (ready : ReadyMessage) → slice_index_or held p None ≡ Some ready → IsHeld diagram world (addressee n) p ready) → IsAllowed diagram world (record { agent = addressee n; act = record { kept = Some r; held = held; sends = [] } }) in
          subst P (sym same)
          (λ awaited sent known holds.
          subst (λ x. IsAllowed diagram world (record { agent = decide.to; act = record { kept = Some x; held = held; sends = [] } })) (sym is) (move-allowed decide held known sent awaited room holds))
          awaited sent known holds

  -- telling a Decide again is allowed
  again-allowed : (m : Message) (a : ℕ) → a < length diagram.agents → (decide : DecideMessage) → given diagram (agent_of diagram world a) m ≡ Again decide →
      IsAllowed diagram world (record { agent = a; act = record { kept = None; held = (agent_of diagram world a).held; sends = DecideOf decide ∷ [] } })
  again-allowed m a known decide e =
      sending-allowed a (DecideOf decide ∷ []) known (λ ready c. no_ready ready c) (λ d c. one d c)
    where
      apart : (ready : ReadyMessage) → DecideOf decide ≡ ReadyOf ready → ⊥
      apart ready h = cc

      same : (d : DecideMessage) → DecideOf decide ≡ DecideOf d → decide ≡ d
      same d h = cc

      no_ready : (ready : ReadyMessage) → Contains (DecideOf decide ∷ []) (ReadyOf ready) → WasTold diagram world ready
      no_ready ready (zero, lt, h) = absurd (apart ready h)
      no_ready ready (suc k, lt, h) = absurd (omega (arith, lt))

      decided : WasDecided diagram world decide
      decided =
          let d = again-decided diagram (agent_of diagram world a) m decide e in
          let names = decide-names (agent_of diagram world a).id d.1 d.0 decide d.3 in
          let from : decide.from ≡ a = names.0 ∙ id-each diagram ok single world was a known in
          let told : decide_of decide.from decide.to d.0 ≡ Some decide = ap (λ b. decide_of b decide.to d.0) names.0 ∙ (ap (λ b. decide_of (agent_of diagram world a).id b d.0) names.1 ∙ d.3) in
          record {
            sender = subst (λ b. b < length diagram.agents) (sym from) known;
            decision = d.0;
            recorded = subst (λ b. Contains (agent_of diagram world b).records d.0) (sym from) d.2;
            told = told;
          }

      one : (d : DecideMessage) → Contains (DecideOf decide ∷ []) (DecideOf d) → WasDecided diagram world d
      one d (zero, lt, h) = subst (λ x. WasDecided diagram world x) (same d h) decided
      one d (suc k, lt, h) = absurd (omega (arith, lt))

  -- keeping a Ready is allowed
  keeping-allowed : (ready : ReadyMessage) → Contains world.sent (ReadyOf ready) → ready.to < length diagram.agents → given diagram (agent_of diagram world ready.to) (ReadyOf ready) ≡ Kept →
      IsAllowed diagram world (record { agent = ready.to; act = record { kept = None; held = held_with (agent_of diagram world ready.to) (ReadyOf ready); sends = [] } })
  keeping-allowed ready sent known e =
      let agent = agent_of diagram world ready.to in
      quiet diagram world ready.to (held_with agent (ReadyOf ready)) [] was known (length-set agent.held ready.from (Some ready) ∙ (was.agents ready.to known).room)
      (λ p other h. ⊎_elim
      (λ k.
      let P : ReadyMessage → Type 0 = λ r. IsHeld diagram world ready.to p r in
      subst P k.1 (record { sent = sent; from = sym k.0; to = refl; undecided = ap (λ q. list_any (has_visit q (nat_le ready.visit)) agent.records) k.0 ∙ kept-undecided diagram agent ready e }))
      (λ k. was.held ready.to p other known k) (held-with agent ready.from p other ready h))
      (λ ready c. none-sent (ReadyOf ready) c) (λ decide c. none-sent (DecideOf decide) c)

  -- giving a message that was sent is allowed, by what becomes of it
  given-allowed : (m : Message) → Contains world.sent m → addressee m < length diagram.agents → (g : Given) → given diagram (agent_of diagram world (addressee m)) m ≡ g → (ending : Ending) →
      IsAllowed diagram world (deed_by (addressee m) ending (taking (agent_of diagram world (addressee m)) m g))
  given-allowed m sent known g e StopsBefore = stopping-allowed diagram world (addressee m) was known
  given-allowed m sent known Kept e StopsAfter = stopping-allowed diagram world (addressee m) was known
  given-allowed m sent known (Again decide) e StopsAfter = stopping-allowed diagram world (addressee m) was known
  given-allowed m sent known Old e StopsAfter = stopping-allowed diagram world (addressee m) was known
  given-allowed m sent known Stranger e StopsAfter = stopping-allowed diagram world (addressee m) was known
  given-allowed m sent known (Recorded r) e StopsAfter = recording-allowed m sent known r e nothing_held refl (λ p ready h. absurd (none-held p ready h))
  given-allowed m sent known (Recorded r) e GoesOn =
      recording-allowed m sent known r e (agent_of diagram world (addressee m)).held (was.agents (addressee m) known).room (λ p ready h. was.held (addressee m) p ready known h)
  given-allowed m sent known Old e GoesOn = sending-allowed (addressee m) [] known (λ ready c. none-sent (ReadyOf ready) c) (λ decide c. none-sent (DecideOf decide) c)
  given-allowed m sent known Stranger e GoesOn = sending-allowed (addressee m) [] known (λ ready c. none-sent (ReadyOf ready) c) (λ decide c. none-sent (DecideOf decide) c)
  given-allowed (DecideOf d) sent known Kept e GoesOn = sending-allowed d.to [] known (λ ready c. none-sent (ReadyOf ready) c) (λ decide c. none-sent (DecideOf decide) c)
  given-allowed (ReadyOf ready) sent known Kept e GoesOn = keeping-allowed ready sent known e
  given-allowed m sent known (Again decide) e GoesOn = again-allowed m (addressee m) known decide e

  -- giving a message that was sent is allowed, however the event ends
  pub giving-allowed : (m : Message) (ending : Ending) → Contains world.sent m → IsAllowed diagram world (deed_by (addressee m) ending (given_act diagram world m))
  giving-allowed m ending sent = given-allowed m sent (addressee-below m sent) (given diagram (agent_of diagram world (addressee m)) m) refl ending
