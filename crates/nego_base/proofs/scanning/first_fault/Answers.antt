use Rattle.std.proofs.Common.{refl, sym, ◌∙◌, arith}
use Rattle.nego_base.specs.Scan.{scan_fault}
use Rattle.nego_base.proofs.ScanLaws.{no_item, fault_here, fault_later, no_fault}
use Rattle.nego_base.proofs.scanning.first_fault.Goals as goal

pub loop-rest-init : goal.loop-rest-init
unfolding scan_fault
loop-rest-init c = record { same = refl; counted = omega arith }

pub returns-then-is_some : goal.returns-then-is_some
returns-then-is_some c =
    let at = c.loop-rest in
    fault_here at.number at.rest.now c.cut_line.result.0.now c.cut_line.result.1.now c.line_body.result.now
    (record { cut = c.cut_line.ensures.lines; ended = c.line_body.ensures.body }) c.args.bytes.now c.line_fault-fault.result at.invariant.same c.line_fault-fault.ensures
    (sym c.is_some.ensures ∙ c.if-is_some.true)

pub loop-rest-preserved : goal.loop-rest-preserved
loop-rest-preserved c =
    let at = c.loop-rest in
    let cut = c.cut_line.ensures in
    record {
      same = fault_later at.number at.rest.now c.cut_line.result.0.now c.cut_line.result.1.now c.line_body.result.now
          (record { cut = cut.lines; ended = c.line_body.ensures.body }) c.args.bytes.now c.line_fault-fault.result at.invariant.same c.line_fault-fault.ensures
          (sym c.is_some.ensures ∙ c.if-is_some.false);
      counted = omega (arith, at.invariant.counted, cut.whole, cut.filled);
    }

pub returns : goal.returns
returns c =
    no_fault c.loop-rest.number c.args.bytes.now c.loop-rest.rest.now c.loop-rest.invariant.same
    (no_item c.loop-rest.rest.now (sym c.is_empty.ensures ∙ c.loop-rest-test.false))
