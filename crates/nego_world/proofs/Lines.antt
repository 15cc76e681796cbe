-- How a schedule goes on, line by line.
use Rattle.std.proofs.Common.{◌≡◌, ℕ, suc, ◌+◌, ◌<◌, ◌≤◌, List, ◌∷◌, All, drop, length, map, slice_index_or, Option, None, Some, Ok, Err, refl, sym, ap, subst, ◌∙◌, arith, length-append}
use Rattle.std.proofs.lemmas.List.Elements.{All-set, All-map}
use Rattle.std.proofs.lemmas.List.{drop_more, get_or-map, length-map}
use Rattle.std.specs.List.{range_with_len}
use Rattle.std.specs.Option.{option_to_list}
use Rattle.std.specs.Result.{result_map_both}
use Rattle.nego_base.specs.Results.{◌>>=◌}
use Rattle.nego_base.proofs.Cases.{same_Ok, bind_ok}
use Rattle.nego_model.specs.Diagram.{PlainDiagram}
use Rattle.agent_msg.specs.Records.{PlainRecord}
use Rattle.agent_core.specs.Agents.{beginning}
use Rattle.agent_core.specs.Acts.{Act, after_act}
use Rattle.agent_core.specs.Deciding.{value_in}
use Rattle.agent_core.specs.Worlds.{PlainWorld, PlainEvent, Deed, start_of, agent_of, deed_of, after_deed, step, first_world, plays}
use Rattle.nego_world.specs.declared.event.Event.TheVariants as events
use Rattle.nego_world.specs.declared.event.EventLine.{EventLine}
use Rattle.nego_world.specs.Events.{plain_event, plain_line, NamesAgent, NamesAgents}
use Rattle.nego_world.specs.declared.answers.PlayFault.{PlayFault}
use Rattle.nego_world.specs.declared.answers.PlayFault.TheVariants as fails
use Rattle.nego_world.specs.declared.answers.StepFault.{StepFault}
use Rattle.nego_world.specs.declared.answers.StepFault.TheVariants as faults
use Rattle.nego_world.specs.Stepping.{plain_why, fault_at, HasStepFault, HasLineFault, HasPlayFault}
use Rattle.nego_world.proofs.Keeping.{records-after}

-- a line whose event happens
pub line-goes : (diagram : PlainDiagram) (world next : PlainWorld) (item : ℕ × PlainEvent) (rest : List (ℕ × PlainEvent)) → step diagram world item.1 ≡ Ok next → plays diagram world (item ∷ rest) ≡ plays diagram next rest
line-goes diagram world next item rest h = ap (λ r. result_map_both (λ x. x) (λ why. (item.0, why)) r >>= λ x. plays diagram x rest) h

-- a line whose event doesn't
pub line-stops : (diagram : PlainDiagram) (start : ℕ) (lines : List (ℕ × PlainEvent)) (world : PlainWorld) (item : ℕ × PlainEvent) (rest : List (ℕ × PlainEvent)) (fault : PlayFault) →
    plays diagram (first_world diagram start) lines ≡ plays diagram world (item ∷ rest) → HasLineFault diagram world item.0 item.1 fault → HasPlayFault diagram start lines fault
line-stops diagram start lines world item rest (fails.At at why) same h =
    same ∙ (ap (λ r. result_map_both (λ x. x) (λ w. (item.0, w)) r >>= λ x. plays diagram x rest) h.1 ∙ ap (λ n. Err (n, plain_why why)) (sym h.0))
line-stops diagram start lines world item rest fails.Memory same h = tt

-- the fault of a line is that of its event
pub line-fault : (diagram : PlainDiagram) (world : PlainWorld) (line : ℕ) (event : PlainEvent) (fault : StepFault) → HasStepFault diagram world event fault → HasLineFault diagram world line event (fault_at line fault)
line-fault diagram world line event (faults.NoMessage i) h = (refl, h)
line-fault diagram world line event faults.Finished h = (refl, h)
line-fault diagram world line event faults.NotLeader h = (refl, h)
line-fault diagram world line event (faults.Waits p) h = (refl, h)
line-fault diagram world line event faults.Memory h = tt

-- Each agent has at most so many records, and room for more.
abbrev pub HasRoomFor : ℕ → PlainWorld → Type 0
HasRoomFor more world = All (λ agent. length agent.records + more ≤ 10000) world.agents

-- what is kept is at most one record
at_most_one : (kept : Option PlainRecord) → length (option_to_list kept) ≤ 1
at_most_one None = omega arith
at_most_one (Some r) = omega arith

module _ (diagram : PlainDiagram) (world : PlainWorld) (more : ℕ) (room : HasRoomFor (suc more) world) where
  -- each agent had room for one record more
  room-before : All (λ agent. length agent.records + more ≤ 10000) world.agents
  room-before = λ k d lt. omega (arith, room k d lt)

  -- an agent that acts keeps at most one record
  room-acted : (a : ℕ) (act : Act) → a < length world.agents → length (after_act diagram (agent_of diagram world a) act).records + more ≤ 10000
  room-acted a act lt =
      let agent = agent_of diagram world a in
      omega (arith, room a (beginning diagram a (start_of diagram world a)) lt, ap length (records-after diagram agent act), length-append agent.records (option_to_list act.kept), at_most_one act.kept)

  -- a deed of one of the agents uses up at most one of the room
  pub room-after : (next : PlainWorld) (event : PlainEvent) → ((deed : Deed) → deed_of diagram world event ≡ Ok deed → deed.agent < length world.agents) → step diagram world event ≡ Ok next → HasRoomFor more next
  room-after next event known h =
      let b = bind_ok (deed_of diagram world event) (λ deed. Ok (after_deed diagram world deed)) next h in
      let deed = b.0 in
      subst (HasRoomFor more) (same_Ok (after_deed diagram world deed) next b.2)
      (All-set (λ agent. length agent.records + more ≤ 10000) world.agents deed.agent (after_act diagram (agent_of diagram world deed.agent) deed.act) (room-acted deed.agent deed.act (known deed b.1)) room-before)

-- the world at the beginning has room for 10,000 records of each agent
pub first-room : (diagram : PlainDiagram) (start more : ℕ) → more ≤ 10000 → HasRoomFor more (first_world diagram start)
first-room diagram start more few = All-map (λ agent. length agent.records + more ≤ 10000) (λ a. beginning diagram a (value_in diagram start a)) (range_with_len 0 (length diagram.agents)) (λ k d lt. omega (arith, few))

-- a line that stands nowhere
abbrev pub no_line : EventLine
no_line = record { line = 0; event = events.Tell (record { 0 = 0 }) }

-- the line of a place stands before those behind it
pub at-line : (diagram : PlainDiagram) (world : PlainWorld) (items : List EventLine) (i : ℕ) → i < length items → plays diagram world (map plain_line (drop i items)) ≡ plays diagram world (plain_line (slice_index_or items i no_line) ∷ map plain_line (drop (i + 1) items))
at-line diagram world items i lt = ap (λ xs. plays diagram world (map plain_line xs)) (drop_more items i no_line lt)

-- its event names an agent of the diagram
pub named-line : (diagram : PlainDiagram) (items : List EventLine) (i : ℕ) → NamesAgents diagram (map plain_line items) → i < length items → NamesAgent diagram (plain_event (slice_index_or items i no_line).event)
named-line diagram items i known lt =
    let there : i < length (map plain_line items) = omega (arith, lt, length-map items plain_line) in
    subst (λ x. NamesAgent diagram x.1) (get_or-map plain_line items i no_line (plain_line no_line) lt) (known i (plain_line no_line) there)
