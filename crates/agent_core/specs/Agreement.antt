-- What agents record of a history, and when journals agree with it.
use Rattle.std.specs.Prelude.{◌≡◌, ◌⊎◌, ℕ, ◌<◌, ◌==◌, if◌then◌else◌, List, [], ◌∷◌, ◌++◌, length, map, slice_index_or}
use Rattle.nego_base.specs.Members.{is_in}
use Rattle.nego_model.specs.Joining.{By, IsHistory, steps_of}
use Rattle.nego_model.specs.Joining as model
use Rattle.nego_model.specs.Projection.{own_entries}
use Rattle.nego_model.specs.Diagram.{PlainDiagram, negotiation_of, relation_of, parties_of, leader_of}
use Rattle.agent_msg.specs.Records.{Share, PlainRecord, Moved, Decided}
use Rattle.agent_core.specs.Deciding.{value_in}

-- how often an agent took part in entries
abbrev pub visits : PlainDiagram → ℕ → List model.Entry → ℕ
visits diagram a entries = length (own_entries (negotiation_of diagram) a entries)

-- the share of a party in an entry behind others: how often it took part before, and its value after the entry
abbrev pub share_in : PlainDiagram → List model.Entry → model.Entry → ℕ → Share
share_in diagram before entry p = record { agent = p; visit = visits diagram p before; after = value_in diagram entry.joint p }

-- The record that a party makes of an entry behind others: the leader's is the decision with the shares of the parties,
-- another's is its move.
abbrev pub record_of : PlainDiagram → List model.Entry → model.Entry → ℕ → PlainRecord
record_of diagram before entry a =
    if leader_of diagram entry.step.0 == a then Decided entry.step.0 entry.step.1 (map (share_in diagram before entry) (parties_of diagram entry.step.0)) else Moved entry.step.0 entry.step.1 (value_in diagram entry.joint a)

-- the records that an agent makes of entries behind others: one of each entry in which it takes part
abbrev pub records_behind : PlainDiagram → ℕ → List model.Entry → List model.Entry → List PlainRecord
records_behind diagram a before [] = []
records_behind diagram a before (entry ∷ entries) =
    if is_in a (parties_of diagram entry.step.0) then record_of diagram before entry a ∷ records_behind diagram a (before ++ entry ∷ []) entries else records_behind diagram a (before ++ entry ∷ []) entries

-- the journal that a history gives an agent
abbrev pub journal_of : PlainDiagram → List model.Entry → ℕ → List PlainRecord
journal_of diagram history a = records_behind diagram a [] history

-- A journal agrees with the history: it is the one that the history gives the agent, or lacks only the last record,
-- which is a move.
abbrev pub Agrees : PlainDiagram → List model.Entry → ℕ → List PlainRecord → Type 0
Agrees diagram history a journal =
    (journal ≡ journal_of diagram history a) ⊎ ((n o after : ℕ) × (journal ++ Moved n o after ∷ [] ≡ journal_of diagram history a))

-- A history of the diagram: its occurrences are a run, and its data, from the start on, are related entry by entry.
abbrev pub IsHistoryOf : PlainDiagram → ℕ → List model.Entry → Type 0
IsHistoryOf diagram start history = IsHistory (negotiation_of diagram) (By (relation_of diagram)) start history

-- Journals agree with a history of the diagram.
pub record AgreeWith (diagram : PlainDiagram) (start : ℕ) (history : List model.Entry) (journals : List (List PlainRecord)) : Type 0 where
  pub run : IsHistoryOf diagram start history
  pub each : (a : ℕ) → a < length diagram.agents → Agrees diagram history a (slice_index_or journals a [])
