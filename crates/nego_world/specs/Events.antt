-- Events and schedules in plain numbers, and whom they name.
use Rattle.std.specs.Prelude.{ℕ, ◌<◌, List, length, map, All, ⊤}
use Rattle.nego_model.specs.Diagram.{PlainDiagram}
use Rattle.agent_core.specs.Deciding.{Finished, NotLeader, Waits}
use Rattle.agent_core.specs.Worlds.{PlainEvent, Tell, Give, Decide, Stop, GoesOn, StopsBefore, StopsAfter, Refusal, NoMessage, NoDecision}
use Rattle.nego_world.specs.declared.event.Event.{Event}
use Rattle.nego_world.specs.declared.event.Event.TheVariants as events
use Rattle.nego_world.specs.declared.event.EventLine.{EventLine}
use Rattle.nego_world.specs.declared.event.Schedule.{Schedule}

-- the event in plain numbers
abbrev pub plain_event : Event → PlainEvent
plain_event (events.Tell a) = Tell a.0
plain_event (events.Give i) = Give i GoesOn
plain_event (events.Decide a choice) = Decide a.0 choice GoesOn
plain_event (events.Stop a) = Stop a.0
plain_event (events.GiveLost i) = Give i StopsBefore
plain_event (events.GiveKept i) = Give i StopsAfter
plain_event (events.DecideLost a choice) = Decide a.0 choice StopsBefore
plain_event (events.DecideKept a choice) = Decide a.0 choice StopsAfter

-- An agent that the event names is one of the diagram's.
abbrev pub NamesAgent : PlainDiagram → PlainEvent → Type 0
NamesAgent diagram (Tell a) = a < length diagram.agents
NamesAgent diagram (Give i ending) = ⊤
NamesAgent diagram (Decide a choice ending) = a < length diagram.agents
NamesAgent diagram (Stop a) = a < length diagram.agents

-- An agent that the refusal of an event names is one of the diagram's.
abbrev pub RefusalNamesAgent : PlainDiagram → Refusal → Type 0
RefusalNamesAgent diagram (NoMessage i) = ⊤
RefusalNamesAgent diagram (NoDecision Finished) = ⊤
RefusalNamesAgent diagram (NoDecision NotLeader) = ⊤
RefusalNamesAgent diagram (NoDecision (Waits p)) = p < length diagram.agents

-- the event of a line, with the line
abbrev pub plain_line : EventLine → ℕ × PlainEvent
plain_line item = (item.line, plain_event item.event)

-- the events of a schedule, each with its line
abbrev pub plain_lines : Schedule → List (ℕ × PlainEvent)
plain_lines schedule = map plain_line schedule.events

-- Each agent that a schedule names is one of the diagram's.
abbrev pub NamesAgents : PlainDiagram → List (ℕ × PlainEvent) → Type 0
NamesAgents diagram lines = All (λ item. NamesAgent diagram item.1) lines
