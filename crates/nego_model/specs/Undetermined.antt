-- Where a diagram isn't deterministic.
use Rattle.std.specs.Prelude.{◌≡◌, ◌⊎◌, ℕ, ◌<◌, ◌≤◌, length}
use Rattle.nego_model.specs.Diagram.{PlainDiagram, nexts_of}

-- The least pair of an outcome and an agent, by outcome and then by agent, with two next atoms or more.
pub record IsFirstUndetermined (diagram : PlainDiagram) (o a : ℕ) : Type 0 where
  pub outcome : o < length diagram.outcomes
  pub agent : a < length diagram.agents
  pub two : 1 < length (nexts_of diagram o a)
  pub least : (p b : ℕ) → p < length diagram.outcomes → b < length diagram.agents → ((p < o) ⊎ ((p ≡ o) × (b < a))) → length (nexts_of diagram p b) ≤ 1
