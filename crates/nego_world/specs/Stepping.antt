-- What a step answers.
use Rattle.std.specs.Prelude.{◌≡◌, ℕ, ◌≤◌, List, length, slice_get, Option, None, Some, Ok, Err, All, ⊤}
use Rattle.std.specs.Option.{option_map, option_map_or, option_and_then, option_to_list, is_none}
use Rattle.std.specs.List.{filter}
use Rattle.nego_model.specs.Diagram.{PlainDiagram}
use Rattle.agent_msg.specs.Messages.{ReadyMessage, DecideMessage, Message, ready_message, decide_message}
use Rattle.agent_msg.specs.Records.{Share, PlainRecord, entry, IsTidy}
use Rattle.agent_core.specs.Agents.{share_of}
use Rattle.agent_core.specs.Acts.{Given, Kept, Recorded, Again, Old, Stranger, ready_of, given}
use Rattle.agent_core.specs.Deciding.{value_in}
use Rattle.agent_core.specs.Deciding as undecided
use Rattle.agent_core.specs.Worlds.{PlainWorld, PlainEvent, Tell, Give, Decide, Stop, Ending, GoesOn, StopsBefore, StopsAfter, Refusal, Deed, agent_of, addressee, deed_of, step, first_world, plays}
use Rattle.agent_core.specs.Worlds as worlds
use Rattle.nego_world.specs.declared.answers.Stepped.{Stepped}
use Rattle.nego_world.specs.declared.answers.StepFault.{StepFault}
use Rattle.nego_world.specs.declared.answers.StepFault.TheVariants as faults
use Rattle.nego_world.specs.declared.answers.PlayFault.{PlayFault}
use Rattle.nego_world.specs.declared.answers.PlayFault.TheVariants as fails
use Rattle.nego_world.specs.declared.answers.StepWhy.{StepWhy}
use Rattle.nego_world.specs.declared.answers.StepWhy.TheVariants as whys

-- the Ready that is told in an event
abbrev pub ready_in : PlainDiagram → PlainWorld → PlainEvent → Option ReadyMessage
ready_in diagram world (Tell a) = ready_of diagram (agent_of diagram world a)
ready_in diagram world (Give i ending) = None
ready_in diagram world (Decide a choice ending) = None
ready_in diagram world (Stop a) = None

-- the record that is kept of a message, if there is one
abbrev pub kept_of : Given → Option PlainRecord
kept_of Kept = None
kept_of (Recorded r) = Some r
kept_of (Again decide) = None
kept_of Old = None
kept_of Stranger = None

-- the Decide that is sent again, if a message gets it
abbrev pub again_of : Given → Option DecideMessage
again_of Kept = None
again_of (Recorded r) = None
again_of (Again decide) = Some decide
again_of Old = None
again_of Stranger = None

-- the Decide that the addressee of a message sends again
abbrev pub again_to : PlainDiagram → PlainWorld → Message → Option DecideMessage
again_to diagram world message = again_of (given diagram (agent_of diagram world (addressee message)) message)

-- what goes out of an event that ends so
abbrev pub going : {A : Type 0} → Ending → Option A → Option A
going GoesOn out = out
going StopsBefore out = None
going StopsAfter out = None

-- the Decide that is sent again in an event
abbrev pub again_in : PlainDiagram → PlainWorld → PlainEvent → Option DecideMessage
again_in diagram world (Tell a) = None
again_in diagram world (Give i ending) = going ending (option_and_then (again_to diagram world) (slice_get world.sent i))
again_in diagram world (Decide a choice ending) = None
again_in diagram world (Stop a) = None

-- The answer to a step tells its deed: who acted, the record that was kept, the Ready that was told, and the Decide that
-- was sent again.
pub record TellsDeed (diagram : PlainDiagram) (world : PlainWorld) (event : PlainEvent) (stepped : Stepped) : Type 0 where
  pub deed : Deed
  pub done : deed_of diagram world event ≡ Ok deed
  pub agent : stepped.agent.0 ≡ deed.agent
  pub kept : option_map entry stepped.kept ≡ deed.act.kept
  pub ready : option_map ready_message stepped.ready ≡ ready_in diagram world event
  pub again : option_map decide_message stepped.again ≡ again_in diagram world event

-- What a step keeps is tidy.
abbrev pub KeepsTidy : Stepped → Type 0
KeepsTidy stepped = All IsTidy (option_to_list stepped.kept)

-- An event happened: this is the world after it, and this the answer.
pub record Happened (diagram : PlainDiagram) (world : PlainWorld) (event : PlainEvent) (stepped : Stepped) (next : PlainWorld) : Type 0 where
  pub leaves : step diagram world event ≡ Ok next
  pub told : TellsDeed diagram world event stepped
  pub tidy : KeepsTidy stepped

-- why an event is refused, in plain numbers
abbrev pub plain_why : StepWhy → Refusal
plain_why (whys.NoMessage i) = worlds.NoMessage i
plain_why whys.Finished = worlds.NoDecision undecided.Finished
plain_why whys.NotLeader = worlds.NoDecision undecided.NotLeader
plain_why (whys.Waits p) = worlds.NoDecision (undecided.Waits p.0)

-- The event is refused for this.
abbrev pub IsRefused : PlainDiagram → PlainWorld → PlainEvent → StepWhy → Type 0
IsRefused diagram world event why = step diagram world event ≡ Err (plain_why why)

-- Why there is no step: the event is refused for this; or memory is wanted.
abbrev pub HasStepFault : PlainDiagram → PlainWorld → PlainEvent → StepFault → Type 0
HasStepFault diagram world event (faults.NoMessage i) = IsRefused diagram world event (whys.NoMessage i)
HasStepFault diagram world event faults.Finished = IsRefused diagram world event whys.Finished
HasStepFault diagram world event faults.NotLeader = IsRefused diagram world event whys.NotLeader
HasStepFault diagram world event (faults.Waits p) = IsRefused diagram world event (whys.Waits p)
HasStepFault diagram world event faults.Memory = ⊤

-- the fault of a schedule at a line whose event has this fault
abbrev pub fault_at : ℕ → StepFault → PlayFault
fault_at line (faults.NoMessage i) = fails.At line (whys.NoMessage i)
fault_at line faults.Finished = fails.At line whys.Finished
fault_at line faults.NotLeader = fails.At line whys.NotLeader
fault_at line (faults.Waits p) = fails.At line (whys.Waits p)
fault_at line faults.Memory = fails.Memory

-- Why the event of a line doesn't happen: it is refused for this; or memory is wanted.
abbrev pub HasLineFault : PlainDiagram → PlainWorld → ℕ → PlainEvent → PlayFault → Type 0
HasLineFault diagram world line event (fails.At at why) = (at ≡ line) × IsRefused diagram world event why
HasLineFault diagram world line event fails.Memory = ⊤

-- Why there is no world after a schedule: this event is the first that is refused, for this; or memory is wanted.
abbrev pub HasPlayFault : PlainDiagram → ℕ → List (ℕ × PlainEvent) → PlayFault → Type 0
HasPlayFault diagram start lines (fails.At line why) = plays diagram (first_world diagram start) lines ≡ Err (line, plain_why why)
HasPlayFault diagram start lines fails.Memory = ⊤

-- the value of an agent behind a decision with these shares, before which the data are d: its value after where it is a
-- party, and else the one before
abbrev pub value_after_in : PlainDiagram → ℕ → List Share → ℕ → ℕ
value_after_in diagram d shares a = option_map_or (λ s. s.after) (share_of a shares) (value_in diagram d a)

-- Each agent has at most 10,000 records.
abbrev pub HasFewRecords : PlainWorld → Type 0
HasFewRecords world = All (λ agent. length agent.records ≤ 10000) world.agents

-- how many agents are finished
abbrev pub finished_count : PlainWorld → ℕ
finished_count world = length (filter (λ agent. is_none agent.at) world.agents)
