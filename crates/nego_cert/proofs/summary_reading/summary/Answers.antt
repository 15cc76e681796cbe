use Rattle.std.proofs.Common.{[], ◌∷◌, sym, ap, Err, ◌∙◌, refl}
use Rattle.std.proofs.lemmas.Result.{err_from_is_err_and}
use Rattle.nego_base.specs.declared.fault.Fault.{Fault}
use Rattle.nego_base.specs.declared.fault.ReadFaults.TheVariants as faults
use Rattle.nego_base.specs.LineGrammar.{missing_end}
use Rattle.nego_expr.specs.SummaryText.{plain_summary}
use Rattle.nego_cert.specs.declared.summary_row.SummaryKind.TheVariants as kinds
use Rattle.nego_cert.specs.SummaryReading.{walk, known_of, nothing_yet}
use Rattle.nego_cert.proofs.SummarySpelling.{said_kind}
use Rattle.nego_cert.proofs.SummaryWalk.{goes_on, strays, stops, complete, lacks_end}
use Rattle.nego_cert.proofs.summary_reading.summary.Goals as goal

pub returns-in_err-kind : goal.returns-in_err-kind
returns-in_err-kind c =
    let total = walk (missing_end c.args.count) (known_of (kinds.Header ∷ []) nothing_yet) c.args.lines.now in
    let p = err_from_is_err_and c.from_residual-in_err-kind.result c.from_residual-in_err-kind.ensures.1 in
    rw (p.1, p.2)
    (strays (missing_end c.args.count) total c.loop-line.may.now c.args.lines.now c.loop-line.line-index (plain_summary c.loop-line.summary) c.loop-line.invariant (faults.Off c.in_err-kind.field-0.0) c.line-item.result c.loop-line-test.true c.line-item.is c.in_err-kind.ensures)

pub returns-in_err-add : goal.returns-in_err-add
returns-in_err-add c =
    let total = walk (missing_end c.args.count) (known_of (kinds.Header ∷ []) nothing_yet) c.args.lines.now in
    let p = err_from_is_err_and c.from_residual-in_err-add.result c.from_residual-in_err-add.ensures.1 in
    rw (p.1, p.2)
    (stops (missing_end c.args.count) total c.loop-line.may.now c.args.lines.now c.loop-line.line-index (plain_summary c.loop-line.summary) c.loop-line.invariant c.in_err-add.field-0.0 c.line-item.result c.in_ok-kind.kind c.loop-line-test.true c.line-item.is c.in_ok-kind.ensures c.in_err-add.ensures)

pub loop-line-preserved : goal.loop-line-preserved
loop-line-preserved c =
    let total = walk (missing_end c.args.count) (known_of (kinds.Header ∷ []) nothing_yet) c.args.lines.now in
    let old = plain_summary c.loop-line.summary in
    let added = c.in_ok-add.ensures in
    rw c.followers-may.ensures
    (goes_on (missing_end c.args.count) total c.loop-line.may.now c.args.lines.now c.loop-line.line-index old c.loop-line.invariant c.line-item.result c.in_ok-kind.kind added.0 (plain_summary c.add.new.summary) c.loop-line-test.true c.line-item.is c.in_ok-kind.ensures added.1
    (said_kind (known_of c.loop-line.may.now old).nodes (known_of c.loop-line.may.now old).names c.in_ok-kind.kind c.line-item.result added.0 added.1) added.2)

pub returns-then-is_empty : goal.returns-then-is_empty
returns-then-is_empty c =
    let total = walk (missing_end c.args.count) (known_of (kinds.Header ∷ []) nothing_yet) c.args.lines.now in
    complete (missing_end c.args.count) total c.loop-line.may.now c.args.lines.now c.loop-line.line-index (plain_summary c.loop-line.summary) c.loop-line.invariant c.loop-line.summary refl c.loop-line-test.false (sym c.is_empty.ensures ∙ c.if-is_empty.true)

pub returns-else-is_empty : goal.returns-else-is_empty
returns-else-is_empty c =
    let total = walk (missing_end c.args.count) (known_of (kinds.Header ∷ []) nothing_yet) c.args.lines.now in
    lacks_end (missing_end c.args.count) total c.loop-line.may.now c.args.lines.now c.loop-line.line-index (plain_summary c.loop-line.summary) c.loop-line.invariant c.loop-line-test.false (sym c.is_empty.ensures ∙ c.if-is_empty.false)
    ∙ ap (λ (f : Fault). Err f) (sym c.missing_end-missing.ensures)
