-- What `reduce` does with a diagram.
use Rattle.std.specs.Prelude.{◌≡◌, ℕ, List}
use Rattle.nego_base.specs.declared.ids.AgentId.{AgentId}
use Rattle.nego_base.specs.declared.ids.OutcomeId.{OutcomeId}
use Rattle.nego_model.specs.Negotiation.{IsDeterministic}
use Rattle.nego_model.specs.Diagram.{PlainDiagram, negotiation_of}
use Rattle.nego_model.specs.Undetermined.{IsFirstUndetermined}
use Rattle.nego_expr.specs.Work.{PlainWork}
use Rattle.nego_expr.specs.Use.{PlainUse}
use Rattle.nego_cli.specs.declared.failure.Refusal.{Refusal}
use Rattle.nego_cli.specs.declared.failure.Refusal.TheVariants.{Undetermined}
use Rattle.nego_cli.specs.declared.status.Status.{Status}
use Rattle.nego_cli.specs.declared.verdict.Verdict.{Verdict}
use Rattle.nego_cli.specs.Parts.{Read}
use Rattle.nego_cli.specs.Turn.{Turn, TurnHere}
use Rattle.nego_cli.specs.Verdict.{IsReducedTo, verdict_status}
use Rattle.nego_cli.specs.Certificate.{reduction_text}

-- The diagram isn't deterministic, first after this outcome for this agent.
abbrev pub IsUndetermined : PlainDiagram → Refusal → Type 0
IsUndetermined d why = (o : OutcomeId) × (a : AgentId) × (why ≡ Undetermined d o a) × IsFirstUndetermined d o.0 a.0

-- It takes each deterministic diagram.
abbrev pub ReduceTurn : PlainDiagram → List Read → Turn → Type 0
ReduceTurn d reads turn = TurnHere (IsDeterministic (negotiation_of d)) (IsUndetermined d) reads turn

-- The text is the reduction of the diagram, and the status is that of its verdict: the certificate of the uses that are
-- made in the order, the verdict, and the summary or the atoms of the work that they leave.
pub record IsReductionText (d : PlainDiagram) (status : Status) (text : List ℕ) : Type 0 where
  pub uses : List PlainUse
  pub left : PlainWork
  pub verdict : Verdict
  pub reduced : IsReducedTo d uses left verdict
  pub status_is : status ≡ verdict_status verdict
  pub printed : text ≡ reduction_text d uses left verdict

-- It tells the reduction.
abbrev pub ReduceText : PlainDiagram → List Read → Status → List ℕ → Type 0
ReduceText d reads status text = IsReductionText d status text
