-- What holds of the world at every moment.
use Rattle.std.specs.Prelude.{◌≡◌, ℕ, ◌<◌, ◌≤◌, false, nat_le, length, map, slice_get, take, Some}
use Rattle.std.specs.List.{Contains, list_any}
use Rattle.nego_data.specs.Data.{data_count}
use Rattle.nego_model.specs.Diagram.{PlainDiagram}
use Rattle.agent_msg.specs.Messages.{ReadyMessage, DecideMessage, Message, ReadyOf, DecideOf}
use Rattle.agent_msg.specs.Records.{PlainRecord, decide_of}
use Rattle.agent_core.specs.Agents.{PlainAgent, held_from, left_by}
use Rattle.agent_core.specs.Acts.{ready_of, has_visit}
use Rattle.agent_core.specs.Worlds.{PlainWorld, start_of, agent_of}
use Rattle.agent_core.specs.Agreement.{AgreeWith}

-- the agent of a number as its first records left it
abbrev pub agent_at : PlainDiagram → PlainWorld → ℕ → ℕ → PlainAgent
agent_at diagram world a count = left_by diagram a (start_of diagram world a) (take count (agent_of diagram world a).records)

-- The agent of a number is as its records leave it, but for what it holds.
pub record IsInPlace (diagram : PlainDiagram) (world : PlainWorld) (a : ℕ) : Type 0 where
  pub left : agent_of diagram world a ≡ record (left_by diagram a (start_of diagram world a) (agent_of diagram world a).records) { held = (agent_of diagram world a).held }
  pub room : length (agent_of diagram world a).held ≡ 16

-- A Ready was told: its sender has at least as many records as its visit, and it is what the sender tells when these
-- records have left it.
pub record WasTold (diagram : PlainDiagram) (world : PlainWorld) (ready : ReadyMessage) : Type 0 where
  pub sender : ready.from < length diagram.agents
  pub visit : ready.visit ≤ length (agent_of diagram world ready.from).records
  pub told : ready_of diagram (agent_at diagram world ready.from ready.visit) ≡ Some ready

-- A Decide was decided: it is what its sender tells of a decision in its journal.
pub record WasDecided (diagram : PlainDiagram) (world : PlainWorld) (decide : DecideMessage) : Type 0 where
  pub sender : decide.from < length diagram.agents
  pub decision : PlainRecord
  pub recorded : Contains (agent_of diagram world decide.from).records decision
  pub told : decide_of decide.from decide.to decision ≡ Some decide

-- A Ready that an agent holds from another was sent, by this one to that one, and no decision in the holder's journal
-- has the sender with its visit or a greater one.
pub record IsHeld (diagram : PlainDiagram) (world : PlainWorld) (a p : ℕ) (ready : ReadyMessage) : Type 0 where
  pub sent : Contains world.sent (ReadyOf ready)
  pub from : ready.from ≡ p
  pub to : ready.to ≡ a
  pub undecided : list_any (has_visit p (nat_le ready.visit)) (agent_of diagram world a).records ≡ false

-- The world is consistent: it has the diagram's agents, each as its records leave it; the journals agree with the
-- history, which is one of the diagram from the start; each message that was sent stands at one place; each Ready that was sent
-- was told, each Decide was decided, and each Ready that is held is still to be decided.
pub record IsConsistent (diagram : PlainDiagram) (world : PlainWorld) : Type 0 where
  pub start : world.start < data_count diagram.sizes
  pub count : length world.agents ≡ length diagram.agents
  pub agents : (a : ℕ) → a < length diagram.agents → IsInPlace diagram world a
  pub journals : AgreeWith diagram world.start world.history (map (λ agent. agent.records) world.agents)
  pub once : (i j : ℕ) (m : Message) → slice_get world.sent i ≡ Some m → slice_get world.sent j ≡ Some m → i ≡ j
  pub readies : (ready : ReadyMessage) → Contains world.sent (ReadyOf ready) → WasTold diagram world ready
  pub decides : (decide : DecideMessage) → Contains world.sent (DecideOf decide) → WasDecided diagram world decide
  pub held : (a p : ℕ) (ready : ReadyMessage) → a < length diagram.agents → held_from (agent_of diagram world a) p ≡ Some ready → IsHeld diagram world a p ready
