-- One agent: what it keeps, and where its records leave it.
use Rattle.std.specs.Prelude.{◌≡◌, ◌≢◌, ℕ, ◌<◌, ◌==◌, List, [], ◌∷◌, ◌++◌, length, map, take, find, fold, replicate, slice_get, slice_index_or, Option, Some, None, All, IsTrue}
use Rattle.std.specs.Option.{option_map, option_map_or}
use Rattle.nego_base.specs.Members.{is_in}
use Rattle.nego_data.specs.Places.{value_of}
use Rattle.nego_model.specs.Negotiation.{IsOutcome}
use Rattle.nego_model.specs.Diagram.{PlainDiagram, negotiation_of, parties_of, leader_of, nexts_of}
use Rattle.agent_msg.specs.Messages.{ReadyMessage}
use Rattle.agent_msg.specs.Records.{Share, PlainRecord, Moved, Decided}

-- An agent: its number, the value that it began with, the atom at which it is and none where it is finished, its value,
-- its records, and for each agent the Ready that it holds from it.
pub record PlainAgent : Type 0 where
  pub id : ℕ
  pub start : ℕ
  pub at : Option ℕ
  pub value : ℕ
  pub records : List PlainRecord
  pub held : List (Option ReadyMessage)

-- the size of an agent's data
abbrev pub size_of : PlainDiagram → ℕ → ℕ
size_of diagram a = value_of (record { 0 = a }) diagram.sizes

-- the Ready that is held from an agent
abbrev pub held_from : PlainAgent → ℕ → Option ReadyMessage
held_from agent p = slice_index_or agent.held p None

-- what an agent holds that holds no Ready: of up to 16 agents none
abbrev pub nothing_held : List (Option ReadyMessage)
nothing_held = replicate 16 None

-- the atom of a record
abbrev pub record_atom : PlainRecord → ℕ
record_atom (Moved n o after) = n
record_atom (Decided n o shares) = n

-- the outcome of a record
abbrev pub record_outcome : PlainRecord → ℕ
record_outcome (Moved n o after) = o
record_outcome (Decided n o shares) = o

-- the parties of a decision, with their visits and values after; a move has none
abbrev pub shares_in : PlainRecord → List Share
shares_in (Moved n o after) = []
shares_in (Decided n o shares) = shares

-- the share of an agent in a decision
abbrev pub share_of : ℕ → List Share → Option Share
share_of a shares = find (λ s. s.agent == a) shares

-- the value that an agent has after a record of its own
abbrev pub value_after : ℕ → PlainRecord → ℕ
value_after a (Moved n o after) = after
value_after a (Decided n o shares) = option_map_or (λ s. s.after) (share_of a shares) 0

-- the agent after one more record: at its next atom, with its value after
abbrev pub recorded : PlainDiagram → PlainAgent → PlainRecord → PlainAgent
recorded diagram agent r = record agent {
  at = slice_get (nexts_of diagram (record_outcome r) agent.id) 0;
  value = value_after agent.id r;
  records = agent.records ++ r ∷ [];
}

-- an agent that begins with a value: it is at the first atom, has no record and holds nothing
abbrev pub beginning : PlainDiagram → ℕ → ℕ → PlainAgent
beginning diagram a start = record { id = a; start = start; at = Some diagram.first; value = start; records = []; held = nothing_held }

-- the agent that records leave, one after another
abbrev pub left_by : PlainDiagram → ℕ → ℕ → List PlainRecord → PlainAgent
left_by diagram a start records = fold (recorded diagram) (beginning diagram a start) records

-- A move is a step of an agent: it is of the agent's atom, which another leads, and of one of the atom's outcomes, and
-- the value after is below the agent's size.
pub record IsMoveOf (diagram : PlainDiagram) (agent : PlainAgent) (n o after : ℕ) : Type 0 where
  pub at : agent.at ≡ Some n
  pub outcome : IsOutcome (negotiation_of diagram) n o
  pub led : leader_of diagram n ≢ agent.id
  pub below : after < size_of diagram agent.id

-- A decision is a step of an agent: it is of the agent's atom, which the agent leads, and of one of the atom's outcomes;
-- it has the atom's parties, each with a value after below its size, and the agent's own visit is the number of the
-- records before.
pub record IsDecisionOf (diagram : PlainDiagram) (agent : PlainAgent) (n o : ℕ) (shares : List Share) : Type 0 where
  pub at : agent.at ≡ Some n
  pub outcome : IsOutcome (negotiation_of diagram) n o
  pub leads : leader_of diagram n ≡ agent.id
  pub parties : map (λ s. s.agent) shares ≡ parties_of diagram n
  pub below : All (λ s. s.after < size_of diagram s.agent) shares
  pub visit : option_map (λ s. s.visit) (share_of agent.id shares) ≡ Some (length agent.records)

-- The record is a step of the agent.
abbrev pub IsStep : PlainDiagram → PlainAgent → PlainRecord → Type 0
IsStep diagram agent (Moved n o after) = IsMoveOf diagram agent n o after
IsStep diagram agent (Decided n o shares) = IsDecisionOf diagram agent n o shares

-- Each record is a step of the agent that the records before it leave.
abbrev pub AreSteps : PlainDiagram → ℕ → ℕ → List PlainRecord → Type 0
AreSteps diagram a start records = (i : ℕ) (r : PlainRecord) → slice_get records i ≡ Some r → IsStep diagram (left_by diagram a start (take i records)) r

-- A Ready is one for an agent: it is addressed to it, for an atom that it leads, from another party of that atom, with a
-- value below that party's size.
pub record IsForAgent (diagram : PlainDiagram) (a : ℕ) (ready : ReadyMessage) : Type 0 where
  pub to : ready.to ≡ a
  pub leads : leader_of diagram ready.atom ≡ a
  pub party : IsTrue (is_in ready.from (parties_of diagram ready.atom))
  pub another : ready.from ≢ a
  pub below : ready.value < size_of diagram ready.from

-- An agent is as its records leave it, but for what it holds.
abbrev pub IsLeftByRecords : PlainDiagram → PlainAgent → Type 0
IsLeftByRecords diagram agent = agent ≡ record (left_by diagram agent.id agent.start agent.records) { held = agent.held }

-- An agent is valid: it is one of the diagram's, at one of its atoms or finished, and its value is below its size; its
-- records are steps, and leave it as it is; each Ready that it holds is one for it, held from its sender.
pub record IsValid (diagram : PlainDiagram) (agent : PlainAgent) : Type 0 where
  pub known : agent.id < length diagram.agents
  pub place : (n : ℕ) → agent.at ≡ Some n → n < length diagram.atoms
  pub value : agent.value < size_of diagram agent.id
  pub steps : AreSteps diagram agent.id agent.start agent.records
  pub left : IsLeftByRecords diagram agent
  pub room : length agent.held ≡ 16
  pub held : (p : ℕ) (ready : ReadyMessage) → held_from agent p ≡ Some ready → (ready.from ≡ p) × IsForAgent diagram agent.id ready
