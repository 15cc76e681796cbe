-- Summaries, and what a summary tells of a diagram.
use Rattle.std.specs.Prelude.{◌≡◌, ◌↔◌, ℕ, ◌<◌, List, length, map, slice_index}
use Rattle.std.specs.List.{All}
use Rattle.nego_model.specs.Joining.{By, Runs}
use Rattle.nego_model.specs.Occurring.{IsSound}
use Rattle.nego_model.specs.Expression.{PlainNode, IsNodeList, Means, AllBases}
use Rattle.nego_model.specs.Diagram.{PlainDiagram, negotiation_of, relation_of, outcome_name}
use Rattle.nego_data.specs.Data.{data_count}

-- a final outcome: its name and its node
pub record PlainFinal : Type 0 where
  pub name : List ℕ
  pub node : ℕ

-- the nodes of all expressions, and the final outcomes in order
pub record PlainSummary : Type 0 where
  pub nodes : List PlainNode
  pub finals : List PlainFinal

-- Each child of a node has a smaller number than the node, each outcome among the nodes is below the count of outcomes,
-- and each final outcome has a node that is there.
pub record IsFormed (outcomes : ℕ) (summary : PlainSummary) : Type 0 where
  pub below : IsNodeList summary.nodes
  pub bases : AllBases (λ o. o < outcomes) summary.nodes
  pub there : All (λ outcome. outcome.node < length summary.nodes) summary.finals

-- the outcomes of the last atom, in order
abbrev pub final_outcomes : PlainDiagram → List ℕ
final_outcomes diagram = (negotiation_of diagram).outcomes diagram.last

-- The summary tells the diagram: the diagram is sound; the summary has the names of the last atom's outcomes, in
-- their order; and each final outcome's node relates exactly the data that some complete run with this last
-- outcome joins.
pub record Tells (summary : PlainSummary) (diagram : PlainDiagram) : Type 0 where
  pub formed : IsFormed (length diagram.outcomes) summary
  pub sound : IsSound (negotiation_of diagram)
  pub named : map (λ outcome. outcome.name) summary.finals ≡ map (outcome_name diagram) (final_outcomes diagram)
  pub each : (k d e : ℕ) → k < length (final_outcomes diagram) → d < data_count diagram.sizes → e < data_count diagram.sizes →
      Means (By (relation_of diagram)) summary.nodes (slice_index (map (λ outcome. outcome.node) summary.finals) k) d e
      ↔ Runs (negotiation_of diagram) (By (relation_of diagram)) (slice_index (final_outcomes diagram) k) d e
