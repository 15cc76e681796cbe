-- The rows of a summary's nodes that are kept, and those in the making.
use Rattle.std.specs.Prelude.{◌≡◌, ℕ, ◌+◌, ◌-◌, ◌*◌, ◌<◌, ◌≤◌, List, length, map, slice_get, slice_index_or, Option, Some, None, All, ⊤}
use Rattle.std.specs.List.{range_with_len}
use Rattle.nego_data.specs.Data.{data_count}
use Rattle.nego_model.specs.Joining.{Relation, By}
use Rattle.nego_model.specs.Expression.{PlainNode, Base, Join, Then, Star, IsNodeList, Means, NodeBases}
use Rattle.nego_model.specs.Diagram.{relation_of, outcome_table}
use Rattle.nego_eval.specs.Begun.{IsRowOf, IsBegun}
use Rattle.nego_eval.specs.Asked.{Asks}
use Rattle.nego_eval.specs.declared.rows.Pair.{Pair}
use Rattle.nego_eval.specs.declared.rows.Rows.{Rows}
use Rattle.nego_eval.specs.declared.frame.Frame.{Frame}

-- what the nodes mean on the diagram of some rows
abbrev pub meaning : Rows → Relation
meaning rows = Means (By (relation_of rows.diagram.now)) rows.nodes.now.nodes

-- The pair is of a node that is there, and of joint data.
pub record IsPair (rows : Rows) (pair : Pair) : Type 0 where
  pub node : pair.node.0 < length rows.nodes.now.nodes
  pub start : pair.start < rows.joint

-- the place of a pair among the rows that are kept
abbrev pub place_of : Rows → Pair → ℕ
place_of rows pair = pair.node.0 * rows.joint + pair.start

-- the row of a pair, where it is kept
abbrev pub kept_row : Rows → Pair → Option (List ℕ)
kept_row rows pair = slice_index_or rows.kept (place_of rows pair) None

-- The row is that of the pair.
abbrev pub IsRowAt : Rows → Pair → List ℕ → Type 0
IsRowAt rows pair row = IsRowOf (meaning rows pair.node.0) rows.joint pair.start row

-- The nodes are over the diagram, there is a place for each pair, and each row that is kept is that of its pair.
pub record AreRows (rows : Rows) : Type 0 where
  pub nodes : IsNodeList rows.nodes.now.nodes
  pub bases : All (NodeBases (λ o. o < length rows.diagram.now.outcomes) (λ i. ⊤)) rows.nodes.now.nodes
  pub joint : rows.joint ≡ data_count rows.diagram.now.sizes
  pub few : rows.joint ≤ 1024
  pub tables : rows.tables ≡ map (outcome_table rows.diagram.now) (range_with_len 0 (length rows.diagram.now.outcomes))
  pub places : length rows.kept ≡ length rows.nodes.now.nodes * rows.joint
  pub each : (pair : Pair) (row : List ℕ) → IsPair rows pair → kept_row rows pair ≡ Some row → IsRowAt rows pair row

-- The rows that are kept may differ, and nothing else.
abbrev pub AreAlike : Rows → Rows → Type 0
AreAlike rows later = later ≡ record rows { kept = later.kept }

-- how late a pair is in the order in which rows ask for rows: by nodes, and of one node those of greater starts first
abbrev pub rank : Pair → ℕ
rank pair = pair.node.0 * 1024 + (1023 - pair.start)

-- The row of the pair asks for the wanted one, which isn't kept yet and comes before it.
pub record IsWanted (rows : Rows) (pair wanted : Pair) : Type 0 where
  pub there : IsPair rows wanted
  pub vacant : kept_row rows wanted ≡ None
  pub before : rank wanted < rank pair
  pub asked : Asks (meaning rows) rows.nodes.now.nodes pair wanted

-- A row in the making whose next step is what a child means.
abbrev pub IsGoing : Rows → Frame → ℕ → Type 0
IsGoing rows frame child = IsBegun (meaning rows frame.pair.node.0) (meaning rows child) rows.joint frame.pair.start frame.met frame.followed

-- A row in the making whose next step is what a child means, which is a node before its own.
pub record StepsBy (rows : Rows) (frame : Frame) (child : ℕ) : Type 0 where
  pub there : IsPair rows frame.pair
  pub below : child < frame.pair.node.0
  pub going : IsGoing rows frame child

-- A row in the making of a composition of two nodes.
pub record IsThrough (rows : Rows) (frame : Frame) (first second : ℕ) : Type 0 where
  pub node : slice_get rows.nodes.now.nodes frame.pair.node.0 ≡ Some (Then first second)
  pub below : first < frame.pair.node.0
  pub steps : StepsBy rows frame second

-- A row in the making of a star of a node.
pub record IsClosing (rows : Rows) (frame : Frame) (child : ℕ) : Type 0 where
  pub node : slice_get rows.nodes.now.nodes frame.pair.node.0 ≡ Some (Star child)
  pub steps : StepsBy rows frame child

-- A row in the making of a node: after its first child that of its second, of a star that of its child.
abbrev pub IsFrameOf : Rows → Frame → PlainNode → Type 0
IsFrameOf rows frame (Base o) = ⊤
IsFrameOf rows frame (Join x y) = ⊤
IsFrameOf rows frame (Then x y) = IsGoing rows frame y
IsFrameOf rows frame (Star x) = IsGoing rows frame x

-- A row in the making.
pub record IsFrame (rows : Rows) (frame : Frame) : Type 0 where
  pub there : IsPair rows frame.pair
  pub going : (node : PlainNode) → slice_get rows.nodes.now.nodes frame.pair.node.0 ≡ Some node → IsFrameOf rows frame node
