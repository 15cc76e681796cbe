-- What is known where every agent is finished.
use Rattle.std.specs.Prelude.{◌≡◌, ℕ, ◌<◌, length, map, slice_index, None, All}
use Rattle.nego_model.specs.Joining.{By, EndsWith, Runs, steps_of, joint_after}
use Rattle.nego_model.specs.Occurring.{IsComplete}
use Rattle.nego_model.specs.Expression.{Means}
use Rattle.nego_model.specs.Diagram.{PlainDiagram, negotiation_of, relation_of}
use Rattle.nego_model.specs.Summary.{PlainSummary, Tells, final_outcomes}
use Rattle.agent_core.specs.Worlds.{PlainWorld}

-- Every agent is finished.
abbrev pub AllFinished : PlainWorld → Type 0
AllFinished world = All (λ agent. agent.at ≡ None) world.agents

-- the joint data after the history
abbrev pub last_joint : PlainWorld → ℕ
last_joint world = joint_after world.start world.history

-- The history is a complete run; with its last outcome some complete run joins the start to the last data; and each
-- summary that tells the diagram relates them at this outcome.
pub record IsCompleted (diagram : PlainDiagram) (world : PlainWorld) : Type 0 where
  pub complete : IsComplete (negotiation_of diagram) (steps_of world.history)
  pub outcome : ℕ
  pub ends : EndsWith (steps_of world.history) (diagram.last, outcome)
  pub runs : Runs (negotiation_of diagram) (By (relation_of diagram)) outcome world.start (last_joint world)
  pub told : (summary : PlainSummary) (k : ℕ) → Tells summary diagram → k < length (final_outcomes diagram) → slice_index (final_outcomes diagram) k ≡ outcome →
      Means (By (relation_of diagram)) summary.nodes (slice_index (map (λ final. final.node) summary.finals) k) world.start (last_joint world)

-- Where every agent is finished, the history is completed.
abbrev pub FinishesComplete : PlainDiagram → PlainWorld → Type 0
FinishesComplete diagram world = AllFinished world → IsCompleted diagram world
