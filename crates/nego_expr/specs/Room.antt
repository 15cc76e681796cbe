-- How nodes and works are seen, with room for more.
use Rattle.std.specs.Prelude.{ℕ, List}
use Rattle.nego_model.specs.Expression.{PlainNode}
use Rattle.nego_expr.specs.Work.{PlainWork}

-- a list of nodes, and for how many more there is room
pub record RoomyNodes : Type 0 where
  pub nodes : List PlainNode
  pub room : ℕ

-- a work, and for how many more nodes and outcomes there is room
pub record RoomyWork : Type 0 where
  pub plain : PlainWork
  pub spare_nodes : ℕ
  pub spare_outcomes : ℕ
