-- What the calls of an agent make of the world.
use Rattle.std.proofs.Common.{◌≡◌, ℕ, ◌<◌, ◌≤◌, List, [], ◌∷◌, All, length, map, fold, slice_get, slice_set, Some, None, Result, Ok, Err, IfOk, IfErr, OnErr, refl, sym, ap, subst, ◌∙◌, arith}
use Rattle.std.proofs.lemmas.Option.{get_or_from_slice_get, slice_get-map, slice_get_within}
use Rattle.std.proofs.lemmas.List.{map-set, set-get_or, length-map}
use Rattle.std.proofs.lemmas.List.Elements.{All-nil}
use Rattle.std.proofs.Math.Seq.{map-set_same}
use Rattle.std.specs.Option.{option_map, option_map_or, option_and_then, option_to_list}
use Rattle.std.specs.Result.{result_map_both, result_unwrap_or, IsErrAnd}
use Rattle.nego_base.specs.Results.{◌>>=◌}
use Rattle.nego_base.proofs.Cases.{same_Ok, same_Err, ok-err, bind_ok}
use Rattle.nego_data.specs.Data.{data_count}
use Rattle.nego_model.specs.Joining.{By, joint_after}
use Rattle.nego_model.specs.Joining as model
use Rattle.nego_model.specs.Occurring.{opening_marking}
use Rattle.nego_model.proofs.occurrence.Histories.{joint_after-below, history_leaves}
use Rattle.nego_model.specs.Negotiation.{IsDeterministic}
use Rattle.nego_model.specs.Diagram.{PlainDiagram, IsDiagram, negotiation_of, relation_of, parties_of}
use Rattle.agent_msg.specs.Messages.{Message, DecideOf, ready_message, decide_message}
use Rattle.agent_msg.specs.Records.{PlainRecord, Moved, Decided, entry}
use Rattle.agent_core.specs.declared.choice.Choice.{Choice}
use Rattle.agent_core.specs.Agents.{PlainAgent, IsStep, IsValid, size_of, shares_in, beginning}
use Rattle.agent_core.specs.Roomy.{RoomyAgent}
use Rattle.agent_core.specs.Acts.{Act, Given, Kept, Recorded, Again, Old, Stranger, after_act, sending, given, taking}
use Rattle.agent_core.specs.Deciding.{Undecided, known_joint, chosen_joint, share_at, decides_of, atom_to_decide, decision_by, deciding, decided, decides, after_decision}
use Rattle.agent_core.specs.Worlds.{PlainWorld, PlainEvent, Give, Decide, Stop, Ending, GoesOn, StopsBefore, Refusal, NoMessage, NoDecision, Deed, start_of, agent_of, addressee, given_act, stopping, deed_by, entered, with_message, deed_of, after_deed, step}
use Rattle.agent_core.specs.Consistency.{IsConsistent}
use Rattle.nego_world.specs.declared.answers.Stepped.{Stepped}
use Rattle.nego_world.specs.declared.answers.StepFault.{StepFault}
use Rattle.nego_world.specs.Events.{NamesAgent}
use Rattle.nego_world.specs.Stepping.{kept_of, again_of, again_to, ready_in, again_in, KeepsTidy, Happened, HasFewRecords}
use Rattle.nego_world.proofs.Agents.{valid-each, id-each}
use Rattle.nego_world.proofs.Giving.{recorded-awaited}
use Rattle.nego_world.proofs.Moves.{addressee-below}
use Rattle.nego_world.proofs.Happening.{Contains_at, step-consistent}

-- what is recorded of a message, and what is sent
pub taking-kept : (agent : PlainAgent) (m : Message) (g : Given) → kept_of g ≡ (taking agent m g).kept
taking-kept agent m Kept = refl
taking-kept agent m (Recorded r) = refl
taking-kept agent m (Again decide) = refl
taking-kept agent m Old = refl
taking-kept agent m Stranger = refl

pub taking-sends : (agent : PlainAgent) (m : Message) (g : Given) → map DecideOf (option_to_list (again_of g)) ≡ (taking agent m g).sends
taking-sends agent m Kept = refl
taking-sends agent m (Recorded r) = refl
taking-sends agent m (Again decide) = refl
taking-sends agent m Old = refl
taking-sends agent m Stranger = refl

-- an agent that decides does so at its atom, and is after just that
pub deciding-is : (diagram : PlainDiagram) (agent : PlainAgent) (choice : Choice) (r : PlainRecord) → decided diagram agent choice ≡ Ok r →
    (n : ℕ) × (decides diagram agent choice ≡ Ok (deciding diagram agent n choice)) × (r ≡ decision_by diagram agent n choice) × (after_decision diagram agent choice ≡ after_act diagram agent (deciding diagram agent n choice))
deciding-is diagram agent choice r h =
    let b = bind_ok (atom_to_decide diagram agent) (λ n. Ok (decision_by diagram agent n choice)) r h in
    let one = ap {B = Result Act Undecided} (λ a. a >>= λ n. Ok (deciding diagram agent n choice)) b.1 in (
      b.0,
      one,
      sym (same_Ok (decision_by diagram agent b.0 choice) r b.2),
      ap (λ x. result_unwrap_or (result_map_both (after_act diagram agent) (λ why. why) x) agent) one,
    )

-- one that doesn't decide is refused
pub undecided-is : (diagram : PlainDiagram) (agent : PlainAgent) (choice : Choice) (why : Undecided) → decided diagram agent choice ≡ Err why → decides diagram agent choice ≡ Err why
undecided-is diagram agent choice why h = go (atom_to_decide diagram agent) refl h
  where
    go : (r : Result ℕ Undecided) → atom_to_decide diagram agent ≡ r → (r >>= λ n. Ok (decision_by diagram agent n choice)) ≡ Err why → (atom_to_decide diagram agent >>= λ n. Ok (deciding diagram agent n choice)) ≡ Err why
    go (Err w) e k = ap (λ a. a >>= λ n. Ok (deciding diagram agent n choice)) e ∙ ap (λ x. Err x) (same_Err w why k)
    go (Ok n) e k = absurd (ok-err (decision_by diagram agent n choice) why k)

-- a fault that is handed on
pub fault-is : {T E : Type 0} (P : E → Type 0) (r : Result T E) (fault : E) → IsErrAnd r (λ e. e ≡ fault) → P fault → IfErr r P
fault-is P (Err e) fault h p = subst P (sym h) p
fault-is P (Ok x) fault h p = tt

-- what holds however a call ends
pub on-err : {T E : Type 0} (X : Type 0) (r : Result T E) → X → OnErr r X
on-err X (Err e) x = x
on-err X (Ok y) x = tt

-- the agent of a place of the world
pub agent-there : (diagram : PlainDiagram) (now : PlainWorld) (a : ℕ) (agent : PlainAgent) → slice_get now.agents a ≡ Some agent → agent_of diagram now a ≡ agent
agent-there diagram now a agent h = get_or_from_slice_get now.agents a agent (beginning diagram a (start_of diagram now a)) h

-- giving a message that isn't there is refused
pub refused-given : (diagram : PlainDiagram) (now : PlainWorld) (i : ℕ) (ending : Ending) → slice_get now.sent i ≡ None → step diagram now (Give i ending) ≡ Err (NoMessage i)
refused-given diagram now i ending h = ap (λ o. option_map_or (λ m. Ok (deed_by (addressee m) ending (given_act diagram now m))) o (Err (NoMessage i)) >>= λ x. Ok (after_deed diagram now x)) h

-- the values after a step are below their sizes
pub step-afters : (diagram : PlainDiagram) (agent : PlainAgent) (r : PlainRecord) → IsStep diagram agent r → All (λ s. s.after < size_of diagram s.agent) (shares_in r)
step-afters diagram agent (Moved n o after) h = All-nil (λ s. s.after < size_of diagram s.agent)
step-afters diagram agent (Decided n o shares) h = h.below

-- the parties of a decision are those of its atom
pub parties-decided : (diagram : PlainDiagram) (agent : PlainAgent) (n e : ℕ) (parties : List ℕ) → map (λ s. s.agent) (map (share_at diagram agent n e) parties) ≡ parties
parties-decided diagram agent n e [] = refl
parties-decided diagram agent n e (p ∷ parties) = ap (λ ps. p ∷ ps) (parties-decided diagram agent n e parties)

-- what a leader sends of its decision
pub sends-decided : (diagram : PlainDiagram) (agent : PlainAgent) (a n : ℕ) (choice : Choice) (r : PlainRecord) → agent.id ≡ a → r ≡ decision_by diagram agent n choice → decides_of a (map (λ s. s.agent) (shares_in r)) r ≡ (deciding diagram agent n choice).sends
sends-decided diagram agent a n choice r id same =
    let decision = decision_by diagram agent n choice in
    let d = known_joint diagram agent n in
    ap (λ x. decides_of a (map (λ s. s.agent) (shares_in x)) x) same
    ∙ (ap (λ ps. decides_of a ps decision) (parties-decided diagram agent n (chosen_joint diagram n d choice) (parties_of diagram n)) ∙ ap (λ b. decides_of b (parties_of diagram n) decision) (sym id))

-- the data after the history of a consistent world are joint data
pub last-below : (diagram : PlainDiagram) (now : PlainWorld) → IsDiagram diagram → IsConsistent diagram now → joint_after now.start now.history < data_count diagram.sizes
last-below diagram now ok was =
    let left = history_leaves (negotiation_of diagram) (By (relation_of diagram)) now.start now.history was.journals.run in
    joint_after-below (negotiation_of diagram) diagram.sizes (By (relation_of diagram)) ok.local now.history now.start (opening_marking (negotiation_of diagram)) left.0 was.start left.1 was.journals.run.related

-- an event with the deed of another that happened, which tells and sends again as much
pub same-deed : (diagram : PlainDiagram) (now next : PlainWorld) (one other : PlainEvent) (stepped : Stepped) → deed_of diagram now other ≡ deed_of diagram now one → ready_in diagram now one ≡ ready_in diagram now other → again_in diagram now one ≡ again_in diagram now other →
    Happened diagram now one stepped next → Happened diagram now other stepped next
same-deed diagram now next one other stepped same ready again h = record {
  leaves = ap (λ r. r >>= λ x. Ok (after_deed diagram now x)) same ∙ h.leaves;
  told = record { deed = h.told.deed; done = same ∙ h.told.done; agent = h.told.agent; kept = h.told.kept; ready = h.told.ready ∙ ready; again = h.told.again ∙ again };
  tidy = h.tidy;
}

-- who stops where a message is given, and no record is kept
pub lost-given : (diagram : PlainDiagram) (now next : PlainWorld) (i a : ℕ) (m : Message) (stepped : Stepped) → slice_get now.sent i ≡ Some m → a ≡ addressee m → Happened diagram now (Stop a) stepped next → Happened diagram now (Give i StopsBefore) stepped next
lost-given diagram now next i a m stepped there same h =
    same-deed diagram now next (Stop a) (Give i StopsBefore) stepped
    (ap (λ o. option_map_or (λ x. Ok (deed_by (addressee x) StopsBefore (given_act diagram now x))) o (Err (NoMessage i))) there ∙ ap {B = Result Deed Refusal} (λ b. Ok (record { agent = b; act = stopping })) (sym same)) refl refl h

-- who stops where it decides, and no record is kept
pub lost-decision : (diagram : PlainDiagram) (now next : PlainWorld) (a : ℕ) (choice : Choice) (r : PlainRecord) (stepped : Stepped) → decided diagram (agent_of diagram now a) choice ≡ Ok r → Happened diagram now (Stop a) stepped next → Happened diagram now (Decide a choice StopsBefore) stepped next
lost-decision diagram now next a choice r stepped h =
    same-deed diagram now next (Stop a) (Decide a choice StopsBefore) stepped (ap (result_map_both (deed_by a StopsBefore) NoDecision) (deciding-is diagram (agent_of diagram now a) choice r h).1) refl refl

-- a decision is refused for why the agent doesn't decide
pub refused-decision : (diagram : PlainDiagram) (now : PlainWorld) (a : ℕ) (choice : Choice) (ending : Ending) (why : Undecided) → decided diagram (agent_of diagram now a) choice ≡ Err why → step diagram now (Decide a choice ending) ≡ Err (NoDecision why)
refused-decision diagram now a choice ending why h =
    ap (λ r. result_map_both (deed_by a ending) NoDecision r >>= λ x. Ok (after_deed diagram now x)) (undecided-is diagram (agent_of diagram now a) choice why h)

module _ (diagram : PlainDiagram) (start : ℕ) (agents : List RoomyAgent) (sent : List Message) (history : List model.Entry) where
  -- the world of these parts
  abbrev pub seen : PlainWorld
  seen = record { start = start; agents = map (λ agent. agent.plain) agents; sent = sent; history = history }

  -- the agent of a place
  pub agent-seen : (a : ℕ) (g : RoomyAgent) → slice_get agents a ≡ Some g → agent_of diagram seen a ≡ g.plain
  agent-seen a g h =
      get_or_from_slice_get (map (λ agent. agent.plain) agents) a g.plain (beginning diagram a (start_of diagram seen a)) (slice_get-map (λ (x : RoomyAgent). x.plain) agents a ∙ ap (option_map (λ (x : RoomyAgent). x.plain)) h)

  -- what the agents have in common with those of a consistent world
  module _ (ok : IsDiagram diagram) (single : IsDeterministic (negotiation_of diagram)) (now : PlainWorld) (view : seen ≡ now) (was : IsConsistent diagram now) where
    pub place-seen : (a : ℕ) → a < length diagram.agents → a < length agents
    place-seen a known = omega (arith, known, was.count, ap (λ w. length w.agents) view, length-map agents (λ (x : RoomyAgent). x.plain))

    pub valid-seen : (a : ℕ) (g : RoomyAgent) → a < length diagram.agents → slice_get agents a ≡ Some g → IsValid diagram g.plain
    valid-seen a g known h = subst (λ x. IsValid diagram x) (agent-seen a g h) (valid-each diagram ok single seen (subst (λ w. IsConsistent diagram w) (sym view) was) a known)

    pub few-seen : (a : ℕ) (g : RoomyAgent) → HasFewRecords now → slice_get agents a ≡ Some g → length g.plain.records ≤ 10000
    few-seen a g few h =
        let there = slice_get_within agents a g h in
        let lt : a < length seen.agents = omega (arith, there, length-map agents (λ (x : RoomyAgent). x.plain)) in
        subst (λ x. length x.records ≤ 10000) (agent-seen a g h) (subst HasFewRecords (sym view) few a (beginning diagram a (start_of diagram seen a)) lt)

    pub id-seen : (a : ℕ) (g : RoomyAgent) → a < length diagram.agents → slice_get agents a ≡ Some g → g.plain.id ≡ a
    id-seen a g known h = ap (λ x. x.id) (sym (agent-seen a g h)) ∙ id-each diagram ok single seen (subst (λ w. IsConsistent diagram w) (sym view) was) a known

    pub addressee-seen : (i : ℕ) (m : Message) → slice_get now.sent i ≡ Some m → addressee m < length diagram.agents
    addressee-seen i m h = addressee-below diagram ok single now was m (Contains_at now.sent i m h)

  -- the agents after an act of one
  pub agents-with : (a : ℕ) (g next : RoomyAgent) (act : Act) → slice_get agents a ≡ Some g → next.plain ≡ after_act diagram g.plain act →
      map (λ agent. agent.plain) (slice_set agents a next) ≡ slice_set seen.agents a (after_act diagram (agent_of diagram seen a) act)
  agents-with a g next act h is =
      map-set (λ (x : RoomyAgent). x.plain) agents a next ∙ ap (slice_set (map (λ agent. agent.plain) agents) a) (is ∙ ap (λ x. after_act diagram x act) (sym (agent-seen a g h)))

  -- the agents where one only makes room
  pub agents-same : (a : ℕ) (g next : RoomyAgent) → slice_get agents a ≡ Some g → next.plain ≡ g.plain → map (λ agent. agent.plain) (slice_set agents a next) ≡ map (λ agent. agent.plain) agents
  agents-same a g next h is = map-set_same (λ (x : RoomyAgent). x.plain) agents a next g (is ∙ ap (λ x. x.plain) (sym (get_or_from_slice_get agents a g g h)))

  -- the agents where one only sends
  pub agents-sending : (a : ℕ) (sends : List Message) → seen.agents ≡ slice_set seen.agents a (after_act diagram (agent_of diagram seen a) (sending (agent_of diagram seen a) sends))
  agents-sending a sends = sym (set-get_or seen.agents a (beginning diagram a (start_of diagram seen a)))

  -- a message that is given to the agent of a place, and what becomes of it
  module _ (i a : ℕ) (m : Message) (g : RoomyAgent) (what : Given) (there : slice_get sent i ≡ Some m) (same : a ≡ addressee m) (at : slice_get agents a ≡ Some g) (answer : what ≡ given diagram g.plain m) where
    pub given-deed : (ending : Ending) → deed_of diagram seen (Give i ending) ≡ Ok (deed_by a ending (taking g.plain m what))
    given-deed ending =
        ap (λ o. option_map_or (λ x. Ok (deed_by (addressee x) ending (given_act diagram seen x))) o (Err (NoMessage i))) there
        ∙ (ap {B = Result Deed Refusal} (λ b. Ok (deed_by b ending (taking (agent_of diagram seen b) m (given diagram (agent_of diagram seen b) m)))) (sym same)
        ∙ (ap {B = Result Deed Refusal} (λ x. Ok (deed_by a ending (taking x m (given diagram x m)))) (agent-seen a g at) ∙ ap {B = Result Deed Refusal} (λ x. Ok (deed_by a ending (taking g.plain m x))) (sym answer)))

    -- it enters nothing into the history
    pub given-enters : option_map_or (entered diagram start history) (taking g.plain m what).kept history ≡ history
    given-enters = go what answer
      where
        go : (x : Given) → x ≡ given diagram g.plain m → option_map_or (entered diagram start history) (taking g.plain m x).kept history ≡ history
        go Kept e = refl
        go (Recorded r) e = ap (entered diagram start history) (recorded-awaited diagram g.plain m r (sym e)).2
        go (Again decide) e = refl
        go Old e = refl
        go Stranger e = refl

    pub given-again : again_of what ≡ again_in diagram seen (Give i GoesOn)
    given-again =
        ap again_of answer
        ∙ (ap (λ x. again_of (given diagram x m)) (sym (agent-seen a g at)) ∙ (ap (λ b. again_of (given diagram (agent_of diagram seen b) m)) same ∙ sym (ap (option_and_then (again_to diagram seen)) there)))

  -- the deed of an agent that decides
  pub decided-deed : (a : ℕ) (g : RoomyAgent) (choice : Choice) (ending : Ending) (act : Act) → slice_get agents a ≡ Some g → decides diagram g.plain choice ≡ Ok act → deed_of diagram seen (Decide a choice ending) ≡ Ok (deed_by a ending act)
  decided-deed a g choice ending act at h =
      ap (λ x. result_map_both (deed_by a ending) NoDecision (decides diagram x choice)) (agent-seen a g at) ∙ ap (result_map_both (deed_by a ending) NoDecision) h

  -- the world from parts that are as they were
  pub unchanged : (now : PlainWorld) → seen ≡ now → (next_start : ℕ) (next_agents : List PlainAgent) (next_sent : List Message) (next_history : List model.Entry) → next_start ≡ start → next_agents ≡ seen.agents → next_sent ≡ sent → next_history ≡ history →
      ◌≡◌ {A = PlainWorld} (record { start = next_start; agents = next_agents; sent = next_sent; history = next_history }) now
  unchanged now view next_start next_agents next_sent next_history starts stays sends enters =
      ap {B = PlainWorld} (λ x. record { start = x; agents = next_agents; sent = next_sent; history = next_history }) starts
      ∙ (ap {B = PlainWorld} (λ x. record { start = start; agents = x; sent = next_sent; history = next_history }) stays
      ∙ (ap {B = PlainWorld} (λ x. record { start = start; agents = seen.agents; sent = x; history = next_history }) sends
      ∙ (ap {B = PlainWorld} (λ x. record { start = start; agents = seen.agents; sent = sent; history = x }) enters ∙ view)))

  -- the world after an event, from its parts
  pub happened : (now : PlainWorld) → seen ≡ now → (event : PlainEvent) (deed : Deed) (stepped : Stepped) (next_start : ℕ) (next_agents : List PlainAgent) (next_sent : List Message) (next_history : List model.Entry) →
      deed_of diagram seen event ≡ Ok deed → next_start ≡ start → next_agents ≡ slice_set seen.agents deed.agent (after_act diagram (agent_of diagram seen deed.agent) deed.act) → next_sent ≡ fold with_message sent deed.act.sends →
      next_history ≡ option_map_or (entered diagram start history) deed.act.kept history → stepped.agent.0 ≡ deed.agent → option_map entry stepped.kept ≡ deed.act.kept → option_map ready_message stepped.ready ≡ ready_in diagram seen event →
      option_map decide_message stepped.again ≡ again_in diagram seen event → KeepsTidy stepped → Happened diagram now event stepped (record { start = next_start; agents = next_agents; sent = next_sent; history = next_history })
  happened now view event deed stepped next_start next_agents next_sent next_history done starts acts sends enters agent kept ready again tidy =
      let next : PlainWorld = after_deed diagram seen deed in
      let same : ◌≡◌ {A = PlainWorld} (record { start = next_start; agents = next_agents; sent = next_sent; history = next_history }) (after_deed diagram seen deed) =
      ap {B = PlainWorld} (λ x. record { start = x; agents = next_agents; sent = next_sent; history = next_history }) starts
      ∙ (ap {B = PlainWorld} (λ x. record { start = start; agents = x; sent = next_sent; history = next_history }) acts
      ∙ (ap {B = PlainWorld} (λ x. record { start = start; agents = next.agents; sent = x; history = next_history }) sends
      ∙ ap {B = PlainWorld} (λ x. record { start = start; agents = next.agents; sent = next.sent; history = x }) enters)) in
      let P : PlainWorld → Type 0 = λ w. Happened diagram w event stepped (record { start = next_start; agents = next_agents; sent = next_sent; history = next_history }) in
      subst P view
      (record {
        leaves = ap {B = Result PlainWorld Refusal} (λ r. r >>= λ x. Ok (after_deed diagram seen x)) done ∙ ap {B = Result PlainWorld Refusal} (λ w. Ok w) (sym same);
        told = record { deed = deed; done = done; agent = agent; kept = kept; ready = ready; again = again };
        tidy = tidy;
      })

-- however a step ends, a consistent world stays so
pub consistent-step : (diagram : PlainDiagram) → IsDiagram diagram → IsDeterministic (negotiation_of diagram) → (world next : PlainWorld) (event : PlainEvent) (r : Result Stepped StepFault) → IsConsistent diagram world → NamesAgent diagram event →
    IfOk r (λ stepped. Happened diagram world event stepped next) → OnErr r (next ≡ world) → IsConsistent diagram next
consistent-step diagram ok single world next event (Ok stepped) was known h same = step-consistent diagram ok single world next was event known h.leaves
consistent-step diagram ok single world next event (Err fault) was known h same = subst (λ w. IsConsistent diagram w) (sym same) was
