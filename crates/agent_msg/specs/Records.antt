-- Records of a journal in plain numbers, and what a leader tells of one.
use Rattle.std.specs.Prelude.{◌≡◌, ℕ, ◌==◌, false, if◌then◌else◌, List, map, find, slice_index, Option, None, option_map}
use Rattle.nego_base.specs.Members.{is_in}
use Rattle.agent_msg.specs.Messages.{DecideMessage}
use Rattle.agent_msg.specs.declared.record.Record.{Record}
use Rattle.agent_msg.specs.declared.record.Record.TheVariants.{Move, Decision}

-- a party of a decision: how many records it had before, and its value after
pub record Share : Type 0 where
  pub agent : ℕ
  pub visit : ℕ
  pub after : ℕ

-- a record in plain numbers: a move that another decided, or a decision of its own with the parties in rising order
pub data PlainRecord : Type 0 where
  Moved : ℕ → ℕ → ℕ → PlainRecord
  Decided : ℕ → ℕ → List Share → PlainRecord

-- the share of an agent, by the tables of visits and values
abbrev pub share : List ℕ → List ℕ → ℕ → Share
share visits afters a = record { agent = a; visit = slice_index visits a; after = slice_index afters a }

-- the record in plain numbers
abbrev pub entry : Record → PlainRecord
entry (Move atom outcome after) = Moved atom.0 outcome.0 after
entry (Decision atom outcome parties visits afters) = Decided atom.0 outcome.0 (map (share visits afters) parties)

-- what a leader tells a party with this share of its decision
abbrev pub told : ℕ → ℕ → ℕ → Share → DecideMessage
told from atom outcome s = record { from = from; to = s.agent; atom = atom; outcome = outcome; visit = s.visit; after = s.after }

-- What a leader tells an agent of a record: its share of a decision, where it is another party. Of a move nothing.
abbrev pub decide_of : ℕ → ℕ → PlainRecord → Option DecideMessage
decide_of from to (Moved atom outcome after) = None
decide_of from to (Decided atom outcome shares) =
    if to == from then None else option_map (told from atom outcome) (find (λ s. s.agent == to) shares)

-- the records in plain numbers
abbrev pub entries : List Record → List PlainRecord
entries records = map entry records

-- A decision's tables are 0 for the agents that are no parties.
pub record ZeroElsewhere (parties visits afters : List ℕ) : Type 0 where
  pub visits_zero : (a : ℕ) → is_in a parties ≡ false → slice_index visits a ≡ 0
  pub afters_zero : (a : ℕ) → is_in a parties ≡ false → slice_index afters a ≡ 0

-- Nothing stands in a record beside what its entry says.
abbrev pub IsTidy : Record → Type 0
IsTidy (Move atom outcome after) = Unit {0}
IsTidy (Decision atom outcome parties visits afters) = ZeroElsewhere parties visits afters
