-- Why a journal makes no agent.
use Rattle.std.specs.Prelude.{◌≡◌, ℕ, List, take, slice_get, Some, ⊤}
use Rattle.nego_model.specs.Diagram.{PlainDiagram}
use Rattle.agent_msg.specs.Records.{PlainRecord}
use Rattle.agent_core.specs.declared.loading.LoadFault.{LoadFault}
use Rattle.agent_core.specs.declared.loading.LoadFault.TheVariants.{WrongRecord, Memory}
use Rattle.agent_core.specs.Agents.{left_by, IsStep, AreSteps}

-- The record of this place is the first that isn't a step of the agent.
pub record IsFirstWrong (diagram : PlainDiagram) (a start : ℕ) (records : List PlainRecord) (i : ℕ) : Type 0 where
  pub wrong : PlainRecord
  pub there : slice_get records i ≡ Some wrong
  pub before : AreSteps diagram a start (take i records)
  pub no_step : ¬ IsStep diagram (left_by diagram a start (take i records)) wrong

-- Why there is no agent: this is the first record that isn't a step of it; or memory is wanted.
abbrev pub HasLoadFault : PlainDiagram → ℕ → ℕ → List PlainRecord → LoadFault → Type 0
HasLoadFault diagram a start records (WrongRecord i) = IsFirstWrong diagram a start records i
HasLoadFault diagram a start records Memory = ⊤
