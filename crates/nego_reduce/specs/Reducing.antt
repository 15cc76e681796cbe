-- What reduction makes of a work.
use Rattle.std.specs.Prelude.{◌↔◌, ⊤, ◌<◌, List, length, map}
use Rattle.nego_model.specs.Occurring.{IsSound}
use Rattle.nego_model.specs.Diagram.{PlainDiagram, negotiation_of}
use Rattle.nego_model.specs.Summary.{PlainSummary}
use Rattle.nego_expr.specs.Work.{PlainWork}
use Rattle.nego_expr.specs.Use.{PlainUse, after_use, most_nodes}
use Rattle.nego_expr.specs.UseView.{plain_use}
use Rattle.nego_expr.specs.SummaryText.{plain_summary}
use Rattle.nego_expr.specs.Lead.{Lead}
use Rattle.nego_reduce.specs.declared.reduced.Reduced.{Reduced}
use Rattle.nego_reduce.specs.declared.reduced.Reduced.TheVariants.{One, Stuck, NodeLimit}
use Rattle.nego_reduce.specs.Order.{IsNextUse, HasNoNextUse, Reduces}

-- More than one atom is left, and no use is the next one.
pub record IsStuck (work : PlainWork) : Type 0 where
  pub more : 1 < length work.atoms
  pub no_use : HasNoNextUse work

-- The next use would make more nodes than there may be.
pub record IsFull (work : PlainWork) : Type 0 where
  pub next : PlainUse
  pub is_next : IsNextUse work next
  pub too_many : most_nodes < length (after_use work next).nodes

-- what is left of a work, and the uses that were made of it, as plain data
pub data PlainReduced : Type 0 where
  OneLeft : PlainSummary → List PlainUse → PlainReduced
  StuckAt : PlainWork → List PlainUse → PlainReduced
  FullAt : PlainWork → List PlainUse → PlainReduced

-- the same, without the wrapping of numbers and the room for more
abbrev pub plain_reduced : Reduced → PlainReduced
plain_reduced (One summary uses) = OneLeft (plain_summary summary) (map plain_use uses)
plain_reduced (Stuck left uses) = StuckAt left.plain (map plain_use uses)
plain_reduced (NodeLimit left uses) = FullAt left.plain (map plain_use uses)

-- the uses that were made
abbrev pub uses_of : Reduced → List PlainUse
uses_of (One summary uses) = map plain_use uses
uses_of (Stuck left uses) = map plain_use uses
uses_of (NodeLimit left uses) = map plain_use uses

-- The uses, each the next one in its turn, lead from the work to one of which one atom is left, with this summary; to this
-- one, which is stuck; or to this one, which is full.
abbrev pub IsReductionOf : PlainWork → Reduced → Type 0
IsReductionOf work (One summary uses) = Reduces work (map plain_use uses) (plain_summary summary)
IsReductionOf work (Stuck left uses) = Lead IsNextUse work (map plain_use uses) left.plain × IsStuck left.plain
IsReductionOf work (NodeLimit left uses) = Lead IsNextUse work (map plain_use uses) left.plain × IsFull left.plain

-- One atom is left.
abbrev pub IsOne : Reduced → Type 0
IsOne (One summary uses) = ⊤
IsOne _ = ⊥

-- The next use would make more nodes than there may be.
abbrev pub IsNodeLimit : Reduced → Type 0
IsNodeLimit (NodeLimit left uses) = ⊤
IsNodeLimit _ = ⊥

-- Of the fresh work of an acyclic diagram one atom is left exactly where the diagram is sound, and the nodes are never too
-- many.
abbrev pub IsDecided : PlainDiagram → Reduced → Type 0
IsDecided diagram reduced = (IsOne reduced ↔ IsSound (negotiation_of diagram)) × ¬ IsNodeLimit reduced
