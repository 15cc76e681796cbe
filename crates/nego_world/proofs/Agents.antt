-- The agents of a consistent world are valid, and what its messages say.
use Rattle.std.proofs.Common.{◌≡◌, ◌≢◌, ⊎_elim, ℕ, zero, suc, ◌<◌, ◌==◌, ◌||◌, Bool, true, false, cond, List, [], ◌∷◌, ◌++◌, length, map, take, drop, find, Some, None, IsTrue, refl, sym, ap, subst, ◌∙◌, arith, append-nil, append_assoc, eqb-true}
use Rattle.std.proofs.lemmas.Bool.{false≢true}
use Rattle.std.proofs.lemmas.Option.{same_Some, none-some}
use Rattle.std.proofs.lemmas.List.{get_or-map, take-append-drop}
use Rattle.std.specs.List.{Contains}
use Rattle.std.specs.Option.{option_map}
use Rattle.nego_base.specs.Members.{is_in}
use Rattle.nego_base.proofs.Cases.{bind_some, chosen}
use Rattle.nego_base.proofs.Members.{in_or_not}
use Rattle.nego_data.proofs.JointData.{split-below}
use Rattle.nego_model.specs.Negotiation.{IsDeterministic}
use Rattle.nego_model.specs.Joining.{Entry}
use Rattle.nego_model.specs.Diagram.{PlainDiagram, IsDiagram, negotiation_of, parties_of, leader_of}
use Rattle.agent_msg.specs.Messages.{ReadyMessage, DecideMessage}
use Rattle.agent_msg.specs.Records.{Share, Moved, Decided, told, decide_of}
use Rattle.agent_msg.specs.Records as journal
use Rattle.agent_core.specs.Agents.{PlainAgent, size_of, share_of, beginning, left_by, AreSteps, IsForAgent, IsValid}
use Rattle.agent_core.specs.Acts.{is_leader, own_ready}
use Rattle.agent_core.specs.Deciding.{value_in}
use Rattle.agent_core.specs.Worlds.{PlainWorld, start_of, agent_of}
use Rattle.agent_core.specs.Agreement.{visits, share_in, record_of, records_behind, journal_of, Agrees}
use Rattle.agent_core.specs.Consistency.{agent_at, WasTold, WasDecided, IsConsistent}
use Rattle.agent_core.proofs.Given.{unequal}
use Rattle.agent_core.proofs.Numbers.{false_from}
use Rattle.agent_core.proofs.Valid.{left_by-same}
use Rattle.nego_world.proofs.Left.{share_in-party}
use Rattle.nego_world.proofs.Prefixes.{lacks}
use Rattle.nego_world.proofs.Sent.{Contains-front}
use Rattle.nego_world.proofs.Steps.{IsWell, well-left, steps-front, agreed-steps}

-- one who is no party has no share of an entry
pub share_in-other : (diagram : PlainDiagram) (before : List Entry) (entry : Entry) (p : ℕ) (parties : List ℕ) → is_in p parties ≡ false → share_of p (map (share_in diagram before entry) parties) ≡ None
share_in-other diagram before entry p [] h = refl
share_in-other diagram before entry p (q ∷ parties) h = go (q == p) refl (share_in-other diagram before entry p parties)
  where
    go : (b : Bool) → (q == p) ≡ b → (is_in p parties ≡ false → share_of p (map (share_in diagram before entry) parties) ≡ None) → cond b (Some (share_in diagram before entry q)) (share_of p (map (share_in diagram before entry) parties)) ≡ None
    go true e rest = absurd (false≢true (sym h ∙ ap (λ b. b || is_in p parties) e))
    go false e rest = rest (sym (ap (λ b. b || is_in p parties) e) ∙ h)

-- the entry behind others of which an agent made a record
pub record OwnEntry (diagram : PlainDiagram) (l : ℕ) (before history : List Entry) (r : journal.PlainRecord) : Type 0 where
  pub front : List Entry
  pub entry : Entry
  pub rest : List Entry
  pub there : history ≡ front ++ entry ∷ rest
  pub is : r ≡ record_of diagram (before ++ front) entry l

-- each record has its entry
pub own_entry : (diagram : PlainDiagram) (l : ℕ) (before history : List Entry) (r : journal.PlainRecord) → Contains (records_behind diagram l before history) r → OwnEntry diagram l before history r
own_entry diagram l before [] r c = absurd (omega (arith, c.1))
own_entry diagram l before (e ∷ es) r c = go (own_entry diagram l (before ++ e ∷ []) es r) (is_in l (parties_of diagram e.step.0)) c
  where
    later : (Contains (records_behind diagram l (before ++ e ∷ []) es) r → OwnEntry diagram l (before ++ e ∷ []) es r) → Contains (records_behind diagram l (before ++ e ∷ []) es) r → OwnEntry diagram l before (e ∷ es) r
    later f k =
        let o = f k in
        record { front = e ∷ o.front; entry = o.entry; rest = o.rest; there = ap (λ xs. e ∷ xs) o.there; is = o.is ∙ ap (λ xs. record_of diagram xs o.entry l) (append_assoc before (e ∷ []) o.front) }

    head : (Contains (records_behind diagram l (before ++ e ∷ []) es) r → OwnEntry diagram l (before ++ e ∷ []) es r) → Contains (record_of diagram before e l ∷ records_behind diagram l (before ++ e ∷ []) es) r → OwnEntry diagram l before (e ∷ es) r
    head f (zero, lt, same) = record { front = []; entry = e; rest = es; there = refl; is = sym same ∙ ap (λ xs. record_of diagram xs e l) (sym (append-nil before)) }
    head f (suc k, lt, same) = later f (k, omega (arith, lt), same)

    go : (Contains (records_behind diagram l (before ++ e ∷ []) es) r → OwnEntry diagram l (before ++ e ∷ []) es r) → (b : Bool) → Contains (cond b (record_of diagram before e l ∷ records_behind diagram l (before ++ e ∷ []) es) (records_behind diagram l (before ++ e ∷ []) es)) r → OwnEntry diagram l before (e ∷ es) r
    go f true k = head f k
    go f false k = later f k

-- what a leader tells another of an entry: the entry's atom and outcome, how often the other took part before, and its
-- value after
pub record TellsEntry (diagram : PlainDiagram) (front : List Entry) (entry : Entry) (decide : DecideMessage) : Type 0 where
  pub leads : leader_of diagram entry.step.0 ≡ decide.from
  pub party : is_in decide.to (parties_of diagram entry.step.0) ≡ true
  pub another : decide.to ≢ decide.from
  pub atom : decide.atom ≡ entry.step.0
  pub outcome : decide.outcome ≡ entry.step.1
  pub visit : decide.visit ≡ visits diagram decide.to front
  pub after : decide.after ≡ value_in diagram entry.joint decide.to

pub tells_entry : (diagram : PlainDiagram) (front : List Entry) (entry : Entry) (from to : ℕ) (decide : DecideMessage) → decide_of from to (record_of diagram front entry from) ≡ Some decide → TellsEntry diagram front entry decide
tells_entry diagram front entry from to decide h = go (leader_of diagram entry.step.0 == from) refl h
  where
    shares : List Share
    shares = map (share_in diagram front entry) (parties_of diagram entry.step.0)

    parts : (leader_of diagram entry.step.0 ≡ from) → is_in to (parties_of diagram entry.step.0) ≡ true → to ≢ from → told from entry.step.0 entry.step.1 (share_in diagram front entry to) ≡ decide → TellsEntry diagram front entry decide
    parts leads party another same = subst (λ d. TellsEntry diagram front entry d) same (record { leads = leads; party = party; another = another; atom = refl; outcome = refl; visit = refl; after = refl })

    share : (leader_of diagram entry.step.0 ≡ from) → to ≢ from → option_map (told from entry.step.0 entry.step.1) (share_of to (map (share_in diagram front entry) (parties_of diagram entry.step.0))) ≡ Some decide → TellsEntry diagram front entry decide
    share leads another k =
        ⊎_elim
        (λ party. parts leads party another (same_Some (told from entry.step.0 entry.step.1 (share_in diagram front entry to)) decide
        (sym (ap (option_map (told from entry.step.0 entry.step.1)) (share_in-party diagram front entry to (parties_of diagram entry.step.0) party)) ∙ k)))
        (λ absent. absurd (none-some decide
        (sym (ap (option_map (told from entry.step.0 entry.step.1)) (share_in-other diagram front entry to (parties_of diagram entry.step.0) (false_from (is_in to (parties_of diagram entry.step.0)) absent))) ∙ k)))
        (in_or_not to (parties_of diagram entry.step.0))

    go : (b : Bool) → (leader_of diagram entry.step.0 == from) ≡ b →
        decide_of from to (cond b (Decided entry.step.0 entry.step.1 (map (share_in diagram front entry) (parties_of diagram entry.step.0))) (Moved entry.step.0 entry.step.1 (value_in diagram entry.joint from))) ≡ Some decide → TellsEntry diagram front entry decide
    go true e k =
        ⊎_elim (λ n. absurd (none-some decide n.1)) (λ n. share (eqb-true (leader_of diagram entry.step.0) from e) (unequal to from n.0) n.1)
        (chosen (to == from) None (option_map (told from entry.step.0 entry.step.1) (find (λ s. s.agent == to) (map (share_in diagram front entry) (parties_of diagram entry.step.0)))) (Some decide) k)
    go false e k = absurd (none-some decide k)

-- what a Ready says that was told: its sender was at the atom, which another leads, its receiver, and had the value
pub record Telling (diagram : PlainDiagram) (world : PlainWorld) (ready : ReadyMessage) : Type 0 where
  pub at : (agent_at diagram world ready.from ready.visit).at ≡ Some ready.atom
  pub value : (agent_at diagram world ready.from ready.visit).value ≡ ready.value
  pub leads : leader_of diagram ready.atom ≡ ready.to
  pub another : ready.to ≢ ready.from

pub telling_of : (diagram : PlainDiagram) (world : PlainWorld) (ready : ReadyMessage) → WasTold diagram world ready → Telling diagram world ready
telling_of diagram world ready was =
    let agent = agent_at diagram world ready.from ready.visit in
    let id : agent.id ≡ ready.from = (left_by-same diagram (beginning diagram ready.from (start_of diagram world ready.from)) (take ready.visit (agent_of diagram world ready.from).records)).0 in
    let b = bind_some agent.at (λ n. cond (is_leader diagram agent.id n) None (Some (own_ready diagram agent n))) ready was.told in
    ⊎_elim (λ k. absurd (none-some ready k.1))
    (λ k.
    let same : own_ready diagram agent b.0 ≡ ready = same_Some (own_ready diagram agent b.0) ready k.1 in
    let atom : b.0 ≡ ready.atom = ap (λ r. r.atom) same in
    let to : leader_of diagram b.0 ≡ ready.to = ap (λ r. r.to) same in
    record {
      at = b.1 ∙ ap (λ n. Some n) atom;
      value = ap (λ r. r.value) same;
      leads = ap (leader_of diagram) (sym atom) ∙ to;
      another = λ e. unequal (leader_of diagram b.0) agent.id k.0 (to ∙ (e ∙ sym id));
    })
    (chosen (is_leader diagram agent.id b.0) None (Some (own_ready diagram agent b.0)) (Some ready) b.2)

module _ (diagram : PlainDiagram) (ok : IsDiagram diagram) (single : IsDeterministic (negotiation_of diagram)) (world : PlainWorld) (was : IsConsistent diagram world) where
  -- each journal agrees with the history
  pub agrees-each : (a : ℕ) → a < length diagram.agents → Agrees diagram world.history a (agent_of diagram world a).records
  agrees-each a known =
      let there : a < length world.agents = omega (arith, known, was.count) in
      subst (λ rs. Agrees diagram world.history a rs) (get_or-map (λ (g : PlainAgent). g.records) world.agents a (beginning diagram a (start_of diagram world a)) [] there) (was.journals.each a known)

  -- each agent's value at the start is below its size
  pub start-below : (a : ℕ) → a < length diagram.agents → start_of diagram world a < size_of diagram a
  start-below a known = split-below diagram.sizes world.start a was.start (omega (arith, known, ok.sized))

  -- its records are steps
  pub steps-each : (a : ℕ) → a < length diagram.agents → AreSteps diagram a (start_of diagram world a) (agent_of diagram world a).records
  steps-each a known = agreed-steps diagram ok single world.start was.start a known world.history (agent_of diagram world a).records was.journals.run (agrees-each a known)

  -- its first records leave it well
  pub well-at : (a count : ℕ) → a < length diagram.agents → IsWell diagram (agent_at diagram world a count)
  well-at a count known =
      let records = (agent_of diagram world a).records in
      well-left diagram ok a (start_of diagram world a) (take count records) known (start-below a known)
      (steps-front diagram a (start_of diagram world a) (take count records) (drop count records) (subst (λ rs. AreSteps diagram a (start_of diagram world a) rs) (sym (take-append-drop count records)) (steps-each a known)))

  -- a Ready that was told is one for its receiver
  pub told-for : (ready : ReadyMessage) (a : ℕ) → WasTold diagram world ready → ready.to ≡ a → IsForAgent diagram a ready
  told-for ready a told_ready to =
      let agent = agent_at diagram world ready.from ready.visit in
      let id : agent.id ≡ ready.from = (left_by-same diagram (beginning diagram ready.from (start_of diagram world ready.from)) (take ready.visit (agent_of diagram world ready.from).records)).0 in
      let t = telling_of diagram world ready told_ready in
      let well = well-at ready.from ready.visit told_ready.sender in
      record {
        to = to;
        leads = t.leads ∙ to;
        party = subst (λ p. IsTrue (is_in p (parties_of diagram ready.atom))) id (well.party ready.atom t.at);
        another = λ e. t.another (to ∙ sym e);
        below = subst (λ v. v < size_of diagram ready.from) t.value (subst (λ p. agent.value < size_of diagram p) id well.valid.value);
      }

  -- what each agent's records leave is well
  pub well-each : (a : ℕ) → a < length diagram.agents → IsWell diagram (left_by diagram a (start_of diagram world a) (agent_of diagram world a).records)
  well-each a known = well-left diagram ok a (start_of diagram world a) (agent_of diagram world a).records known (start-below a known) (steps-each a known)

  -- the agent of a number has it
  pub id-each : (a : ℕ) → a < length diagram.agents → (agent_of diagram world a).id ≡ a
  id-each a known = ap (λ g. g.id) (was.agents a known).left ∙ (left_by-same diagram (beginning diagram a (start_of diagram world a)) (agent_of diagram world a).records).0

  -- each agent is valid
  pub valid-each : (a : ℕ) → a < length diagram.agents → IsValid diagram (agent_of diagram world a)
  valid-each a known =
      let agent = agent_of diagram world a in
      let place = was.agents a known in
      let left = left_by diagram a (start_of diagram world a) agent.records in
      let well = (well-each a known).valid in
      let id : left.id ≡ a = (left_by-same diagram (beginning diagram a (start_of diagram world a)) agent.records).0 in
      subst (λ g. IsValid diagram g) (sym place.left)
      (record {
        known = well.known;
        place = well.place;
        value = well.value;
        steps = well.steps;
        left = ap {A = PlainAgent} {B = PlainAgent} (λ g. record g { held = agent.held }) well.left;
        room = place.room;
        held = λ p ready h.
            let held = was.held a p ready known h in
            (held.from, subst (λ b. IsForAgent diagram b ready) (sym id) (told-for ready a (was.readies ready held.sent) held.to));
      })

  -- an agent is a party of the atom at which it is
  pub party-each : (a n : ℕ) → a < length diagram.agents → (agent_of diagram world a).at ≡ Some n → IsTrue (is_in a (parties_of diagram n))
  party-each a n known at =
      let id = (left_by-same diagram (beginning diagram a (start_of diagram world a)) (agent_of diagram world a).records).0 in
      subst (λ b. IsTrue (is_in b (parties_of diagram n))) id ((well-each a known).party n (sym (ap (λ g. g.at) (was.agents a known).left) ∙ at))

  -- the entry of which a Decide was told that was decided
  pub decided_entry : (decide : DecideMessage) → WasDecided diagram world decide →
      (front : List Entry) × (entry : Entry) × (rest : List Entry) × (world.history ≡ front ++ entry ∷ rest) × TellsEntry diagram front entry decide
  decided_entry decide d =
      let l = lacks diagram world.history decide.from (agent_of diagram world decide.from).records (agrees-each decide.from d.sender) in
      let there : Contains (journal_of diagram world.history decide.from) d.decision = subst (λ rs. Contains rs d.decision) l.all (Contains-front (agent_of diagram world decide.from).records l.tail d.decision d.recorded) in
      let o = own_entry diagram decide.from [] world.history d.decision there in
      (o.front, o.entry, o.rest, o.there, tells_entry diagram o.front o.entry decide.from decide.to decide (ap (decide_of decide.from decide.to) (sym o.is) ∙ d.told))
