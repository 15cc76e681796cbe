-- What an agent may do keeps the world consistent.
use Rattle.std.proofs.Common.{◌≡◌, ⊎_elim, ℕ, ◌<◌, ◌≤◌, List, [], ◌++◌, length, map, nat_le, take, slice_index_or, Option, Some, None, refl, sym, ap, subst, ◌∙◌, arith, append-nil, length-append}
use Rattle.std.proofs.lemmas.List.{take-append-le, length-set, get_or-map}
use Rattle.std.specs.List.{Contains, list_any}
use Rattle.std.specs.Option.{option_to_list, option_map_or}
use Rattle.nego_model.specs.Diagram.{PlainDiagram}
use Rattle.agent_msg.specs.Messages.{ReadyMessage, DecideMessage, Message, ReadyOf, DecideOf}
use Rattle.agent_msg.specs.Records as journal
use Rattle.agent_core.specs.Agents.{PlainAgent, held_from, recorded, beginning, left_by}
use Rattle.agent_core.specs.Acts.{Act, ready_of, has_visit, after_act}
use Rattle.agent_core.specs.Worlds.{PlainWorld, Deed, start_of, agent_of, after_deed}
use Rattle.agent_core.specs.Agreement.{Agrees, IsHistoryOf}
use Rattle.agent_core.specs.Consistency.{IsInPlace, WasTold, WasDecided, IsHeld, IsConsistent}
use Rattle.agent_core.proofs.Valid.{left_by-push, same_or_not}
use Rattle.nego_world.proofs.Sent.{Contains-front, sent-kept, sent-from, once-kept, agent-after, others-after}

-- What an agent may do: what it holds then is held in the world after it; the history after it is one, and the journals
-- agree with it; what it sends was told or decided.
pub record IsAllowed (diagram : PlainDiagram) (world : PlainWorld) (deed : Deed) : Type 0 where
  pub known : deed.agent < length diagram.agents
  pub room : length deed.act.held ≡ 16
  pub history : IsHistoryOf diagram world.start (after_deed diagram world deed).history
  pub agrees : (b : ℕ) → b < length diagram.agents → Agrees diagram (after_deed diagram world deed).history b (agent_of diagram (after_deed diagram world deed) b).records
  pub held : (p : ℕ) (ready : ReadyMessage) → slice_index_or deed.act.held p None ≡ Some ready → IsHeld diagram (after_deed diagram world deed) deed.agent p ready
  pub readies : (ready : ReadyMessage) → Contains deed.act.sends (ReadyOf ready) → WasTold diagram (after_deed diagram world deed) ready
  pub decides : (decide : DecideMessage) → Contains deed.act.sends (DecideOf decide) → WasDecided diagram (after_deed diagram world deed) decide

-- the records after an act
pub records-after : (diagram : PlainDiagram) (agent : PlainAgent) (act : Act) → (after_act diagram agent act).records ≡ agent.records ++ option_to_list act.kept
records-after diagram agent act = go act.kept
  where
    go : (kept : Option journal.PlainRecord) → (option_map_or (recorded diagram agent) kept agent).records ≡ agent.records ++ option_to_list kept
    go None = sym (append-nil agent.records)
    go (Some r) = refl

-- an agent that its records leave, after an act
pub left-after : (diagram : PlainDiagram) (a start : ℕ) (agent : PlainAgent) (act : Act) → agent ≡ record (left_by diagram a start agent.records) { held = agent.held } →
    after_act diagram agent act ≡ record (left_by diagram a start (after_act diagram agent act).records) { held = act.held }
left-after diagram a start agent act e = go act.kept
  where
    go : (kept : Option journal.PlainRecord) →
        ◌≡◌ {A = PlainAgent} (record (option_map_or (recorded diagram agent) kept agent) { held = act.held }) (record (left_by diagram a start (option_map_or (recorded diagram agent) kept agent).records) { held = act.held })
    go None = ap {A = PlainAgent} {B = PlainAgent} (λ g. record g { held = act.held }) e
    go (Some r) =
        ap {A = PlainAgent} {B = PlainAgent} (λ g. record (recorded diagram g r) { held = act.held }) e
        ∙ ap {A = PlainAgent} {B = PlainAgent} (λ g. record g { held = act.held }) (sym (left_by-push diagram a start agent.records r))

module _ (diagram : PlainDiagram) (world : PlainWorld) (deed : Deed) (was : IsConsistent diagram world) (known : deed.agent < length diagram.agents) where
  abbrev next : PlainWorld
  next = after_deed diagram world deed

  -- the agent of the deed, after it
  pub actor : agent_of diagram next deed.agent ≡ after_act diagram (agent_of diagram world deed.agent) deed.act
  actor = agent-after diagram world deed (subst (λ count. deed.agent < count) (sym was.count) known)

  -- each agent's records have those before at their front
  pub records-grow : (b : ℕ) → (tail : List journal.PlainRecord) × ((agent_of diagram next b).records ≡ (agent_of diagram world b).records ++ tail)
  records-grow b =
      ⊎_elim
      (λ (same : b ≡ deed.agent).
      let P : ℕ → Type 0 = λ c. (tail : List journal.PlainRecord) × ((agent_of diagram next c).records ≡ (agent_of diagram world c).records ++ tail) in
      subst P (sym same) (option_to_list deed.act.kept, ap (λ g. g.records) actor ∙ records-after diagram (agent_of diagram world deed.agent) deed.act))
      (λ other. ([], ap (λ g. g.records) (others-after diagram world deed b other) ∙ sym (append-nil (agent_of diagram world b).records)))
      (same_or_not b deed.agent)

  -- what was told stays so
  pub told-kept : (ready : ReadyMessage) → WasTold diagram world ready → WasTold diagram next ready
  told-kept ready told =
      let grow = records-grow ready.from in
      let le : ready.visit ≤ length (agent_of diagram next ready.from).records = omega (arith, told.visit, ap length grow.1, length-append (agent_of diagram world ready.from).records grow.0) in
      let front : take ready.visit (agent_of diagram next ready.from).records ≡ take ready.visit (agent_of diagram world ready.from).records =
      ap (take ready.visit) grow.1 ∙ take-append-le ready.visit (agent_of diagram world ready.from).records grow.0 told.visit in
      record { sender = told.sender; visit = le; told = ap (λ rs. ready_of diagram (left_by diagram ready.from (start_of diagram world ready.from) rs)) front ∙ told.told }

  -- what was decided stays so
  pub decided-kept : (decide : DecideMessage) → WasDecided diagram world decide → WasDecided diagram next decide
  decided-kept decide was_decided =
      let grow = records-grow decide.from in
      record {
        sender = was_decided.sender;
        decision = was_decided.decision;
        recorded = subst (λ rs. Contains rs was_decided.decision) (sym grow.1) (Contains-front (agent_of diagram world decide.from).records grow.0 was_decided.decision was_decided.recorded);
        told = was_decided.told;
      }

module _ (diagram : PlainDiagram) (world : PlainWorld) (deed : Deed) (was : IsConsistent diagram world) (may : IsAllowed diagram world deed) where
  abbrev after : PlainWorld
  after = after_deed diagram world deed

  acts : agent_of diagram after deed.agent ≡ after_act diagram (agent_of diagram world deed.agent) deed.act
  acts = actor diagram world deed was may.known

  place-kept : (b : ℕ) → b < length diagram.agents → IsInPlace diagram after b
  place-kept b known =
      ⊎_elim
      (λ (same : b ≡ deed.agent). subst (λ c. IsInPlace diagram after c) (sym same) (record {
        left = acts ∙ (left-after diagram deed.agent (start_of diagram world deed.agent) (agent_of diagram world deed.agent) deed.act (was.agents deed.agent may.known).left
            ∙ ap {A = PlainAgent} {B = PlainAgent} (λ g. record (left_by diagram deed.agent (start_of diagram world deed.agent) g.records) { held = g.held }) (sym acts));
        room = ap (λ g. length g.held) acts ∙ may.room;
      }))
      (λ other.
      let stays = others-after diagram world deed b other in
      let old = was.agents b known in
      record {
        left = subst (λ g. g ≡ record (left_by diagram b (start_of diagram world b) g.records) { held = g.held }) (sym stays) old.left;
        room = ap (λ g. length g.held) stays ∙ old.room;
      })
      (same_or_not b deed.agent)

  held-kept : (b p : ℕ) (ready : ReadyMessage) → b < length diagram.agents → held_from (agent_of diagram after b) p ≡ Some ready → IsHeld diagram after b p ready
  held-kept b p ready known h =
      ⊎_elim
      (λ (same : b ≡ deed.agent).
      subst (λ c. IsHeld diagram after c p ready) (sym same) (may.held p ready (ap (λ g. held_from g p) (sym (ap (agent_of diagram after) same ∙ acts)) ∙ h)))
      (λ other.
      let stays = others-after diagram world deed b other in
      let old = was.held b p ready known (ap (λ g. held_from g p) (sym stays) ∙ h) in
      record {
        sent = sent-kept deed.act.sends world.sent (ReadyOf ready) old.sent;
        from = old.from;
        to = old.to;
        undecided = ap (λ g. list_any (has_visit p (nat_le ready.visit)) g.records) stays ∙ old.undecided;
      })
      (same_or_not b deed.agent)

  journal-at : (b : ℕ) → b < length diagram.agents → slice_index_or (map (λ g. g.records) after.agents) b [] ≡ (agent_of diagram after b).records
  journal-at b known =
      let there : b < length after.agents = omega (arith, known, was.count, length-set world.agents deed.agent (after_act diagram (agent_of diagram world deed.agent) deed.act)) in
      get_or-map (λ (g : PlainAgent). g.records) after.agents b (beginning diagram b (start_of diagram world b)) [] there

  -- the world after a deed that is allowed is consistent
  pub consistent-after : IsConsistent diagram after
  consistent-after = record {
    start = was.start;
    count = length-set world.agents deed.agent (after_act diagram (agent_of diagram world deed.agent) deed.act) ∙ was.count;
    agents = place-kept;
    journals = record { run = may.history; each = λ b known. subst (λ rs. Agrees diagram after.history b rs) (sym (journal-at b known)) (may.agrees b known) };
    once = once-kept deed.act.sends world.sent was.once;
    readies = λ ready c. ⊎_elim (λ old. told-kept diagram world deed was may.known ready (was.readies ready old)) (λ new. may.readies ready new) (sent-from deed.act.sends world.sent (ReadyOf ready) c);
    decides = λ decide c. ⊎_elim (λ old. decided-kept diagram world deed was may.known decide (was.decides decide old)) (λ new. may.decides decide new) (sent-from deed.act.sends world.sent (DecideOf decide) c);
    held = held-kept;
  }

-- an act that records nothing is allowed where what it holds was held and what it sends was told or decided
pub quiet : (diagram : PlainDiagram) (world : PlainWorld) (a : ℕ) (held : List (Option ReadyMessage)) (sends : List Message) → IsConsistent diagram world → a < length diagram.agents → length held ≡ 16 →
    ((p : ℕ) (ready : ReadyMessage) → slice_index_or held p None ≡ Some ready → IsHeld diagram world a p ready) → ((ready : ReadyMessage) → Contains sends (ReadyOf ready) → WasTold diagram world ready) →
    ((decide : DecideMessage) → Contains sends (DecideOf decide) → WasDecided diagram world decide) → IsAllowed diagram world (record { agent = a; act = record { kept = None; held = held; sends = sends } })
quiet diagram world a held sends was known room holds told decided = record {
  known = known;
  room = room;
  history = was.journals.run;
  agrees = λ b below. subst (λ rs. Agrees diagram world.history b rs) (sym (same b)) (subst (λ rs. Agrees diagram world.history b rs) (journal_at b below) (was.journals.each b below));
  held = λ p ready h. let old = holds p ready h in record {
    sent = sent-kept sends world.sent (ReadyOf ready) old.sent;
    from = old.from;
    to = old.to;
    undecided = ap (λ rs. list_any (has_visit p (nat_le ready.visit)) rs) (same a) ∙ old.undecided;
  };
  readies = λ ready c. told-kept diagram world (record { agent = a; act = record { kept = None; held = held; sends = sends } }) was known ready (told ready c);
  decides = λ decide c. decided-kept diagram world (record { agent = a; act = record { kept = None; held = held; sends = sends } }) was known decide (decided decide c);
}
  where
    same : (b : ℕ) → (agent_of diagram (after_deed diagram world (record { agent = a; act = record { kept = None; held = held; sends = sends } })) b).records ≡ (agent_of diagram world b).records
    same b =
        ⊎_elim
        (λ (e : b ≡ a).
        subst (λ c. (agent_of diagram (after_deed diagram world (record { agent = a; act = record { kept = None; held = held; sends = sends } })) c).records ≡ (agent_of diagram world c).records) (sym e)
        (ap (λ g. g.records) (actor diagram world (record { agent = a; act = record { kept = None; held = held; sends = sends } }) was known)))
        (λ other. ap (λ g. g.records) (others-after diagram world (record { agent = a; act = record { kept = None; held = held; sends = sends } }) b other)) (same_or_not b a)

    journal_at : (b : ℕ) → b < length diagram.agents → slice_index_or (map (λ g. g.records) world.agents) b [] ≡ (agent_of diagram world b).records
    journal_at b below =
        let there : b < length world.agents = omega (arith, below, was.count) in
        get_or-map (λ (g : PlainAgent). g.records) world.agents b (beginning diagram b (start_of diagram world b)) [] there
