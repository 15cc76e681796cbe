-- Why a diagram has no work.
use Rattle.nego_model.specs.Negotiation.{IsDeterministic}
use Rattle.nego_model.specs.Diagram.{PlainDiagram, negotiation_of}
use Rattle.nego_model.specs.Undetermined.{IsFirstUndetermined}
use Rattle.nego_expr.specs.declared.uses.WorkFault.{WorkFault}
use Rattle.nego_expr.specs.declared.uses.WorkFault.TheVariants.{NotDeterministic, Memory}

-- Why a diagram has no work: this pair is the least with two next atoms or more. Want of memory comes only where
-- there is no such pair.
abbrev pub WorkFaultHolds : PlainDiagram → WorkFault → Type 0
WorkFaultHolds diagram (NotDeterministic o a) = IsFirstUndetermined diagram o.0 a.0
WorkFaultHolds diagram Memory = IsDeterministic (negotiation_of diagram)
