-- The world of all agents, and what an event does to it.
use Rattle.std.specs.Prelude.{ℕ, Bool, false, ◌&&◌, ◌==◌, if◌then◌else◌, List, [], ◌∷◌, ◌++◌, length, map, fold, slice_get, slice_set, slice_index_or, None, Result, Ok, Err}
use Rattle.std.specs.List.{list_any, range_with_len}
use Rattle.std.specs.Option.{option_map_or}
use Rattle.std.specs.Result.{result_map_both}
use Rattle.nego_base.specs.Results.{◌>>=◌}
use Rattle.nego_data.specs.Data.{joint}
use Rattle.nego_model.specs.Joining.{joint_after}
use Rattle.nego_model.specs.Joining as model
use Rattle.nego_model.specs.Diagram.{PlainDiagram}
use Rattle.agent_msg.specs.Messages.{ReadyMessage, DecideMessage, Message, ReadyOf, DecideOf}
use Rattle.agent_msg.specs.Records.{Share, PlainRecord, Moved, Decided}
use Rattle.agent_core.specs.declared.choice.Choice.{Choice}
use Rattle.agent_core.specs.Agents.{PlainAgent, nothing_held, share_of, beginning}
use Rattle.agent_core.specs.Acts.{Act, after_act, telling, given, taking}
use Rattle.agent_core.specs.Deciding.{Undecided, value_in, decides}

-- The world: the joint data at the start, the agents, the messages that were sent, each once in the order of first
-- sending, and the history of what was decided.
pub record PlainWorld : Type 0 where
  pub start : ℕ
  pub agents : List PlainAgent
  pub sent : List Message
  pub history : List model.Entry

-- how an event of an agent ends: it goes on; it stops before a record is kept; it stops after that, before anything is
-- sent
pub data Ending : Type 0 where
  GoesOn : Ending
  StopsBefore : Ending
  StopsAfter : Ending

-- an event: an agent tells; the message of a number is given; an agent decides by a choice; an agent stops
pub data PlainEvent : Type 0 where
  Tell : ℕ → PlainEvent
  Give : ℕ → Ending → PlainEvent
  Decide : ℕ → Choice → Ending → PlainEvent
  Stop : ℕ → PlainEvent

-- why an event is refused: no message has this number, or the agent doesn't decide
pub data Refusal : Type 0 where
  NoMessage : ℕ → Refusal
  NoDecision : Undecided → Refusal

-- an agent's value at the start
abbrev pub start_of : PlainDiagram → PlainWorld → ℕ → ℕ
start_of diagram world a = value_in diagram world.start a

-- the agent of a number
abbrev pub agent_of : PlainDiagram → PlainWorld → ℕ → PlainAgent
agent_of diagram world a = slice_index_or world.agents a (beginning diagram a (start_of diagram world a))

-- the act of an agent that stops: it does nothing and drops what it holds
abbrev pub stopping : Act
stopping = record { kept = None; held = nothing_held; sends = [] }

-- what is left of an act that ends so; a stop drops what the agent holds
abbrev pub ended : Ending → Act → Act
ended GoesOn act = act
ended StopsBefore act = stopping
ended StopsAfter act = record { kept = act.kept; held = nothing_held; sends = [] }

-- to whom a message is addressed
abbrev pub addressee : Message → ℕ
addressee (ReadyOf ready) = ready.to
addressee (DecideOf decide) = decide.to

-- who acts in an event, and how
pub record Deed : Type 0 where
  pub agent : ℕ
  pub act : Act

-- the deed of an agent, with what is left of its act
abbrev pub deed_by : ℕ → Ending → Act → Deed
deed_by a ending act = record { agent = a; act = ended ending act }

-- the act of the addressee to which a message is given
abbrev pub given_act : PlainDiagram → PlainWorld → Message → Act
given_act diagram world message =
    let agent = agent_of diagram world (addressee message) in
    taking agent message (given diagram agent message)

-- who acts in an event and how, or why the event is refused
abbrev pub deed_of : PlainDiagram → PlainWorld → PlainEvent → Result Deed Refusal
deed_of diagram world (Tell a) = Ok (deed_by a GoesOn (telling diagram (agent_of diagram world a)))
deed_of diagram world (Give i ending) =
    option_map_or (λ message. Ok (deed_by (addressee message) ending (given_act diagram world message))) (slice_get world.sent i) (Err (NoMessage i))
deed_of diagram world (Decide a choice ending) = result_map_both (deed_by a ending) NoDecision (decides diagram (agent_of diagram world a) choice)
deed_of diagram world (Stop a) = Ok (deed_by a GoesOn stopping)

-- joint data with the values after that the parties of a decision have
abbrev pub changed : PlainDiagram → ℕ → List Share → ℕ
changed diagram d shares =
    joint diagram.sizes (map (λ a. option_map_or (λ s. s.after) (share_of a shares) (value_in diagram d a)) (range_with_len 0 (length diagram.agents)))

-- a history with a record that was kept: a decision is its next entry, and a move is in it already
abbrev pub entered : PlainDiagram → ℕ → List model.Entry → PlainRecord → List model.Entry
entered diagram start history (Moved n o after) = history
entered diagram start history (Decided n o shares) = history ++ record { step = (n, o); joint = changed diagram (joint_after start history) shares } ∷ []

-- whether two Readies are the same
abbrev pub is_same_ready : ReadyMessage → ReadyMessage → Bool
is_same_ready r s = r.from == s.from && r.to == s.to && r.atom == s.atom && r.visit == s.visit && r.value == s.value

-- whether two Decides are the same
abbrev pub is_same_decide : DecideMessage → DecideMessage → Bool
is_same_decide r s = r.from == s.from && r.to == s.to && r.atom == s.atom && r.outcome == s.outcome && r.visit == s.visit && r.after == s.after

-- whether two messages are the same
abbrev pub is_same : Message → Message → Bool
is_same (ReadyOf r) (ReadyOf s) = is_same_ready r s
is_same (ReadyOf r) (DecideOf s) = false
is_same (DecideOf r) (ReadyOf s) = false
is_same (DecideOf r) (DecideOf s) = is_same_decide r s

-- the messages with one more, which stands at the end unless it was there
abbrev pub with_message : List Message → Message → List Message
with_message sent message = if list_any (is_same message) sent then sent else sent ++ message ∷ []

-- The world after a deed: its agent is after its act; what is sent is among the messages; a decision that is recorded
-- enters the history.
abbrev pub after_deed : PlainDiagram → PlainWorld → Deed → PlainWorld
after_deed diagram world deed = record world {
  agents = slice_set world.agents deed.agent (after_act diagram (agent_of diagram world deed.agent) deed.act);
  sent = fold with_message world.sent deed.act.sends;
  history = option_map_or (entered diagram world.start world.history) deed.act.kept world.history;
}

-- the world after an event, or why the event is refused
abbrev pub step : PlainDiagram → PlainWorld → PlainEvent → Result PlainWorld Refusal
step diagram world event = deed_of diagram world event >>= λ deed. Ok (after_deed diagram world deed)

-- the world at the beginning
abbrev pub first_world : PlainDiagram → ℕ → PlainWorld
first_world diagram start = record {
  start = start;
  agents = map (λ a. beginning diagram a (value_in diagram start a)) (range_with_len 0 (length diagram.agents));
  sent = [];
  history = [];
}

-- the world after the events of lines, one after another, or the line of the first that is refused, and why
abbrev pub plays : PlainDiagram → PlainWorld → List (ℕ × PlainEvent) → Result PlainWorld (ℕ × Refusal)
plays diagram world [] = Ok world
plays diagram world (item ∷ rest) = result_map_both (λ next. next) (λ why. (item.0, why)) (step diagram world item.1) >>= λ next. plays diagram next rest
