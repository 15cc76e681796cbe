-- What reduction makes of a diagram, with the verdict on it.
use Rattle.std.specs.Prelude.{◌≡◌, ⊤, List}
use Rattle.nego_model.specs.Diagram.{PlainDiagram}
use Rattle.nego_model.specs.Expression.{PlainNode}
use Rattle.nego_expr.specs.Work.{PlainWork}
use Rattle.nego_expr.specs.Fresh.{fresh_work}
use Rattle.nego_expr.specs.StandsFor.{IsFresh}
use Rattle.nego_expr.specs.Finish.{summary_of_work}
use Rattle.nego_expr.specs.SummaryText.{plain_summary}
use Rattle.nego_reduce.specs.declared.reduced.Reduced.{Reduced}
use Rattle.nego_reduce.specs.declared.reduced.Reduced.TheVariants.{One, Stuck, NodeLimit}
use Rattle.nego_reduce.specs.Reducing.{uses_of}
use Rattle.nego_cli.specs.declared.failure.Failure.{Failure}
use Rattle.nego_cli.specs.declared.failure.Failure.TheVariants as failures
use Rattle.nego_cli.specs.declared.verdict.Verdict.{Verdict}
use Rattle.nego_cli.specs.Reduce.{IsUndetermined}
use Rattle.nego_cli.specs.Verdict.{IsReducedTo, IsVerdictOn}

-- Why a diagram has no fresh work: it isn't deterministic, or memory was wanted.
abbrev pub HasNoWork : PlainDiagram → Failure → Type 0
HasNoWork d (failures.Refused why) = IsUndetermined d why
HasNoWork d failures.Memory = ⊤
HasNoWork d _ = ⊥

-- Reduction leaves this work, of which it hands back the summary where one atom is left, else the work.
abbrev pub Leaves : Reduced → PlainWork → Type 0
Leaves (One summary uses) left = plain_summary summary ≡ summary_of_work left
Leaves (Stuck work uses) left = work.plain ≡ left
Leaves (NodeLimit work uses) left = work.plain ≡ left

-- the nodes that reduction leaves
abbrev pub nodes_of : Reduced → List PlainNode
nodes_of (One summary uses) = summary.nodes.nodes
nodes_of (Stuck work uses) = work.plain.nodes
nodes_of (NodeLimit work uses) = work.plain.nodes

-- The diagram is deterministic, reduction made this of its fresh work, and this is the verdict on the diagram.
pub record IsJudged (d : PlainDiagram) (r : Reduced) (verdict : Verdict) : Type 0 where
  pub fresh : IsFresh (fresh_work d) d
  pub left : PlainWork
  pub leaves : Leaves r left
  pub reduced : IsReducedTo d (uses_of r) left verdict
  pub on : IsVerdictOn d r verdict
