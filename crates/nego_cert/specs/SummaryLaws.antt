-- The laws of the texts of summaries.
use Rattle.std.specs.Prelude.{◌≢◌, ℕ, ◌+◌, ◌*◌, ◌<◌, ◌≤◌, List, length, All, IsTrue}
use Rattle.std.specs.List.{AllPairs}
use Rattle.nego_base.specs.Name.{is_name}
use Rattle.nego_model.specs.Negotiation.{IsDeterministic}
use Rattle.nego_model.specs.Diagram.{PlainDiagram, IsDiagram, negotiation_of}
use Rattle.nego_model.specs.Expression.{IsNodeList, AllBases}
use Rattle.nego_model.specs.Limits.{IsWithinLimits, HasNames}
use Rattle.nego_model.specs.Summary.{PlainSummary}
use Rattle.nego_expr.specs.Fresh.{fresh_work}
use Rattle.nego_expr.specs.SummaryText.{summary_text}
use Rattle.nego_expr.specs.Use.{PlainUse, most_nodes}
use Rattle.nego_cert.specs.Replay.{LeadToSummary}
use Rattle.nego_cert.specs.SummaryTable.{SpellsSummary}

-- ---- printed summaries

-- A summary can be printed: it has at most 20,000 nodes, each made of nodes before it, and the outcomes among them have
-- numbers of six digits at most; there is a final outcome; each has a name, no two have one, and the node of each is there.
pub record IsPrintableSummary (summary : PlainSummary) : Type 0 where
  pub few : length summary.nodes ≤ most_nodes
  pub below : IsNodeList summary.nodes
  pub bases : AllBases (λ o. o ≤ 999999) summary.nodes
  pub some : 0 < length summary.finals
  pub names : All (λ outcome. IsTrue (is_name outcome.name)) summary.finals
  pub differ : AllPairs (λ x y. x.name ≢ y.name) summary.finals
  pub there : All (λ outcome. outcome.node < length summary.nodes) summary.finals

-- The printed text of a summary that can be printed spells it.
abbrev pub PrintedSummariesAreSpelled : Type 0
PrintedSummariesAreSpelled = (summary : PlainSummary) → IsPrintableSummary summary → SpellsSummary (summary_text summary) summary

-- The summaries that texts spell are just those that can be printed.
abbrev pub SpelledSummariesArePrintable : Type 0
SpelledSummariesArePrintable = (bytes : List ℕ) (summary : PlainSummary) → SpellsSummary bytes summary → IsPrintableSummary summary

-- A printed line of a node has at most 28 bytes, one of a final outcome at most 37.
abbrev pub PrintedSummariesAreShort : Type 0
PrintedSummariesAreShort = (summary : PlainSummary) → IsPrintableSummary summary → length (summary_text summary) ≤ 28 * length summary.nodes + 37 * length summary.finals + 14

-- The summary to which allowed uses lead from a deterministic diagram within the limits can be printed.
abbrev pub AcceptedArePrintable : Type 0
AcceptedArePrintable = (diagram : PlainDiagram) (uses : List PlainUse) (summary : PlainSummary) → IsDiagram diagram → IsWithinLimits diagram → HasNames diagram → IsDeterministic (negotiation_of diagram) →
    LeadToSummary (fresh_work diagram) uses summary → IsPrintableSummary summary
