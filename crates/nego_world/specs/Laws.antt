-- What holds of worlds, whatever happens.
use Rattle.std.specs.Prelude.{ℕ, ◌<◌, List, length, IfOk}
use Rattle.nego_data.specs.Data.{data_count}
use Rattle.nego_model.specs.Negotiation.{IsDeterministic}
use Rattle.nego_model.specs.Diagram.{PlainDiagram, IsDiagram, negotiation_of}
use Rattle.agent_core.specs.Agents.{IsValid}
use Rattle.agent_core.specs.Worlds.{PlainWorld, PlainEvent, agent_of, step, first_world, plays}
use Rattle.agent_core.specs.Consistency.{IsConsistent}
use Rattle.agent_core.specs.Finished.{FinishesComplete}
use Rattle.nego_world.specs.Events.{NamesAgent, NamesAgents}

-- The world at the beginning is consistent.
abbrev pub FirstWorldsAreConsistent : Type 0
FirstWorldsAreConsistent = (diagram : PlainDiagram) (start : ℕ) → start < data_count diagram.sizes → IsConsistent diagram (first_world diagram start)

-- An event of a deterministic diagram leaves a consistent world consistent.
abbrev pub EventsKeepWorldsConsistent : Type 0
EventsKeepWorldsConsistent = (diagram : PlainDiagram) (world : PlainWorld) (event : PlainEvent) → IsDiagram diagram → IsDeterministic (negotiation_of diagram) → IsConsistent diagram world → NamesAgent diagram event →
    IfOk (step diagram world event) (IsConsistent diagram)

-- The world that the events of lines leave, from the beginning on, is consistent.
abbrev pub SchedulesLeaveConsistentWorlds : Type 0
SchedulesLeaveConsistentWorlds = (diagram : PlainDiagram) (start : ℕ) (lines : List (ℕ × PlainEvent)) → IsDiagram diagram → IsDeterministic (negotiation_of diagram) → start < data_count diagram.sizes → NamesAgents diagram lines →
    IfOk (plays diagram (first_world diagram start) lines) (IsConsistent diagram)

-- Where every agent of a consistent world is finished, its history is completed.
abbrev pub ConsistentWorldsFinishComplete : Type 0
ConsistentWorldsFinishComplete = (diagram : PlainDiagram) (world : PlainWorld) → IsDiagram diagram → IsDeterministic (negotiation_of diagram) → IsConsistent diagram world → FinishesComplete diagram world

-- Each agent of a consistent world is valid.
abbrev pub AgentsOfConsistentWorldsAreValid : Type 0
AgentsOfConsistentWorldsAreValid = (diagram : PlainDiagram) (world : PlainWorld) (a : ℕ) → IsDiagram diagram → IsDeterministic (negotiation_of diagram) → IsConsistent diagram world → a < length diagram.agents → IsValid diagram (agent_of diagram world a)
