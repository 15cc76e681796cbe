-- What stands in a world and has a name in its diagram.
use Rattle.std.specs.Prelude.{ℕ, ◌<◌, length, All}
use Rattle.nego_data.specs.Data.{data_count}
use Rattle.nego_model.specs.Joining as model
use Rattle.nego_model.specs.Diagram.{PlainDiagram}
use Rattle.agent_msg.specs.Records.{PlainRecord, Moved, Decided}

-- The diagram has the atom and the outcome.
pub record IsNamedStep (diagram : PlainDiagram) (n o : ℕ) : Type 0 where
  pub atom : n < length diagram.atoms
  pub outcome : o < length diagram.outcomes

-- The diagram has the entry's atom and outcome, and its data are joint data.
pub record IsNamedEntry (diagram : PlainDiagram) (entry : model.Entry) : Type 0 where
  pub step : IsNamedStep diagram entry.step.0 entry.step.1
  pub joint : entry.joint < data_count diagram.sizes

-- The diagram has the record's atom and outcome, and the parties of a decision.
abbrev pub IsNamedRecord : PlainDiagram → PlainRecord → Type 0
IsNamedRecord diagram (Moved n o after) = IsNamedStep diagram n o
IsNamedRecord diagram (Decided n o shares) = IsNamedStep diagram n o × All (λ share. share.agent < length diagram.agents) shares
