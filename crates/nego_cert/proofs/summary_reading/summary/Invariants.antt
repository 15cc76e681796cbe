use Rattle.std.proofs.Common.{drop, [], ◌∷◌}
use Rattle.nego_base.specs.LineGrammar.{missing_end}
use Rattle.nego_expr.specs.SummaryText.{plain_summary}
use Rattle.nego_cert.specs.declared.summary_row.SummaryKind.TheVariants as kinds
use Rattle.nego_cert.specs.SummaryReading.{walk, known_of, nothing_yet}
use Rattle.nego_cert.proofs.SummaryWalk.{SoFar}
use Rattle.nego_cert.proofs.summary_reading.summary.Given as goal

-- the lines so far said the summary so far
abbrev pub invariant-loop-line : goal.invariant-loop-line
invariant-loop-line l = SoFar (walk (missing_end l.count) (known_of l.may (plain_summary l.summary)) (drop l.line-index l.lines)) (walk (missing_end l.count) (known_of (kinds.Header ∷ []) nothing_yet) l.lines) (plain_summary l.summary)
