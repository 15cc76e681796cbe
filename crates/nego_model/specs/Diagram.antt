-- A diagram as plain data, the negotiation that it is, and when plain data are a diagram.
use Rattle.std.specs.Prelude.{◌≡◌, ℕ, ◌+◌, ◌<◌, false, ◌==◌, if◌then◌else◌, List, [], ◌∷◌, length, slice_get, slice_index, slice_index_or, All}
use Rattle.std.specs.List.{range_with_len}
use Rattle.std.specs.Option.{option_map_or}
use Rattle.nego_base.specs.Members.{is_in}
use Rattle.nego_data.specs.Data.{data_count}
use Rattle.nego_data.specs.Tables.{IsTable}
use Rattle.nego_model.specs.Negotiation.{Negotiation, IsNegotiation}
use Rattle.nego_model.specs.Joining.{RelationTest, By}
use Rattle.nego_model.specs.Locality.{IsLocal, IsTotal}

-- an atom: its name and its parties
pub record PlainAtom : Type 0 where
  pub name : List ℕ
  pub parties : List ℕ

-- an outcome: its name, its atom, for each agent the list of its next atoms, and its table: for each joint data the
-- list of those to which it is related
pub record PlainOutcome : Type 0 where
  pub name : List ℕ
  pub atom : ℕ
  pub nexts : List (List ℕ)
  pub table : List (List ℕ)

-- A diagram: the agents' names and the sizes of their data, the atoms, the outcomes, the first and the last atom.
-- Agents, atoms and outcomes are numbered by their places, from 0.
pub record PlainDiagram : Type 0 where
  pub agents : List (List ℕ)
  pub sizes : List ℕ
  pub atoms : List PlainAtom
  pub outcomes : List PlainOutcome
  pub first : ℕ
  pub last : ℕ

-- the name of an agent
abbrev pub agent_name : PlainDiagram → ℕ → List ℕ
agent_name diagram a = slice_index_or diagram.agents a []

-- the name of an atom
abbrev pub atom_name : PlainDiagram → ℕ → List ℕ
atom_name diagram n = option_map_or (λ atom. atom.name) (slice_get diagram.atoms n) []

-- the parties of an atom
abbrev pub parties_of : PlainDiagram → ℕ → List ℕ
parties_of diagram n = option_map_or (λ atom. atom.parties) (slice_get diagram.atoms n) []

-- the leader of an atom: the first of its parties, which is the least
abbrev pub leader_of : PlainDiagram → ℕ → ℕ
leader_of diagram n = slice_index (parties_of diagram n) 0

-- the numbers of the outcomes of an atom, of the outcomes from number o on
abbrev pub outcomes_from : ℕ → List PlainOutcome → ℕ → List ℕ
outcomes_from o [] n = []
outcomes_from o (outcome ∷ outcomes) n = if outcome.atom == n then o ∷ outcomes_from (o + 1) outcomes n else outcomes_from (o + 1) outcomes n

-- the atom of an outcome
abbrev pub atom_of : PlainDiagram → ℕ → ℕ
atom_of diagram o = option_map_or (λ outcome. outcome.atom) (slice_get diagram.outcomes o) 0

-- the next atoms of an agent after an outcome
abbrev pub nexts_of : PlainDiagram → ℕ → ℕ → List ℕ
nexts_of diagram o a = option_map_or (λ outcome. slice_index_or outcome.nexts a []) (slice_get diagram.outcomes o) []

-- the name of an outcome
abbrev pub outcome_name : PlainDiagram → ℕ → List ℕ
outcome_name diagram o = option_map_or (λ outcome. outcome.name) (slice_get diagram.outcomes o) []

-- the table of an outcome
abbrev pub outcome_table : PlainDiagram → ℕ → List (List ℕ)
outcome_table diagram o = option_map_or (λ outcome. outcome.table) (slice_get diagram.outcomes o) []

-- the negotiation that a diagram is
abbrev pub negotiation_of : PlainDiagram → Negotiation
negotiation_of diagram = record {
  agents = length diagram.agents;
  atoms = range_with_len 0 (length diagram.atoms);
  parties = parties_of diagram;
  outcomes = outcomes_from 0 diagram.outcomes;
  next = nexts_of diagram;
  first = diagram.first;
  last = diagram.last;
}

-- whether an outcome relates joint data to joint data
abbrev pub relation_of : PlainDiagram → RelationTest
relation_of diagram o d e = option_map_or (λ outcome. is_in e (slice_index_or outcome.table d [])) (slice_get diagram.outcomes o) false

-- Plain data are a diagram: they are a negotiation, and each outcome is of an atom; each agent has a size above 0;
-- the outcomes' tables are tables of joint data, are total, and read and change the values of their atoms' parties
-- alone.
pub record IsDiagram (diagram : PlainDiagram) : Type 0 where
  pub form : IsNegotiation (negotiation_of diagram)
  pub own_atom : All (λ outcome. outcome.atom < length diagram.atoms) diagram.outcomes
  pub sized : length diagram.sizes ≡ length diagram.agents
  pub some_value : All (λ size. 0 < size) diagram.sizes
  pub tables : All (λ outcome. IsTable (data_count diagram.sizes) outcome.table) diagram.outcomes
  pub total : IsTotal (negotiation_of diagram) diagram.sizes (By (relation_of diagram))
  pub local : IsLocal (negotiation_of diagram) diagram.sizes (By (relation_of diagram))
