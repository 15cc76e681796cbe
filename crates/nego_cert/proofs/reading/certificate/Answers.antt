use Rattle.std.proofs.Common.{[], ◌∷◌, sym, ap, Err, ◌∙◌}
use Rattle.std.proofs.lemmas.Result.{err_from_is_err_and}
use Rattle.nego_base.specs.declared.fault.Fault.{Fault}
use Rattle.nego_base.specs.declared.fault.ReadFaults.TheVariants as faults
use Rattle.nego_base.specs.LineGrammar.{missing_end}
use Rattle.nego_cert.specs.declared.row.Kind.TheVariants as kinds
use Rattle.nego_cert.specs.Reading.{walk}
use Rattle.nego_cert.proofs.CertificateWalk.{none_yet, goes_on, strays, stops, complete, lacks_end}
use Rattle.nego_cert.proofs.reading.certificate.Goals as goal

pub loop-line-init : goal.loop-line-init
loop-line-init c = rw c.new-uses.ensures (none_yet (walk (missing_end c.args.count) (kinds.Header ∷ []) c.args.lines.now))

pub returns-in_err-kind : goal.returns-in_err-kind
returns-in_err-kind c =
    let total = walk (missing_end c.args.count) (kinds.Header ∷ []) c.args.lines.now in
    let p = err_from_is_err_and c.from_residual.result c.from_residual.ensures.1 in
    rw (p.1, p.2)
    (strays (missing_end c.args.count) total c.loop-line.may.now c.args.lines.now c.loop-line.line-index c.loop-line.uses c.loop-line.invariant (faults.Off c.in_err-kind.field-0.0) c.line-item.result c.loop-line-test.true c.line-item.is c.in_err-kind.ensures)

pub returns-in_err-row_of : goal.returns-in_err-row_of
returns-in_err-row_of c =
    let total = walk (missing_end c.args.count) (kinds.Header ∷ []) c.args.lines.now in
    let p = err_from_is_err_and c.from_residual-in_err-row_of.result c.from_residual-in_err-row_of.ensures.1 in
    rw (p.1, p.2)
    (stops (missing_end c.args.count) total c.loop-line.may.now c.args.lines.now c.loop-line.line-index c.loop-line.uses c.loop-line.invariant (faults.Off c.in_err-row_of.field-0.0) c.line-item.result c.in_ok-kind.kind c.loop-line-test.true c.line-item.is c.in_ok-kind.ensures c.in_err-row_of.ensures)

pub loop-line-preserved : goal.loop-line-preserved
loop-line-preserved c =
    let total = walk (missing_end c.args.count) (kinds.Header ∷ []) c.args.lines.now in
    rw (c.in_ok-keep.ensures, c.followers-may.ensures)
    (goes_on (missing_end c.args.count) total c.loop-line.may.now c.args.lines.now c.loop-line.line-index c.loop-line.uses c.loop-line.invariant c.line-item.result c.in_ok-kind.kind c.in_ok-row_of.field-0 c.loop-line-test.true c.line-item.is c.in_ok-kind.ensures c.in_ok-row_of.ensures)

pub returns-then-is_empty : goal.returns-then-is_empty
returns-then-is_empty c =
    let total = walk (missing_end c.args.count) (kinds.Header ∷ []) c.args.lines.now in
    complete (missing_end c.args.count) total c.loop-line.may.now c.args.lines.now c.loop-line.line-index c.loop-line.uses c.loop-line.invariant c.loop-line-test.false (sym c.is_empty.ensures ∙ c.if-is_empty.true)

pub returns-else-is_empty : goal.returns-else-is_empty
returns-else-is_empty c =
    let total = walk (missing_end c.args.count) (kinds.Header ∷ []) c.args.lines.now in
    lacks_end (missing_end c.args.count) total c.loop-line.may.now c.args.lines.now c.loop-line.line-index c.loop-line.uses c.loop-line.invariant c.loop-line-test.false (sym c.is_empty.ensures ∙ c.if-is_empty.false)
    ∙ ap (λ (f : Fault). Err f) (sym c.missing_end-missing.ensures)
