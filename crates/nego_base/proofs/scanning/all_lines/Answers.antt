use Rattle.std.proofs.Common.{◌+◌, ◌++◌, length, sym, ◌∙◌, ap, arith}
use Rattle.nego_base.specs.Lines.{lines}
use Rattle.nego_base.specs.Scan.{scanned_from, scanned, count_lines}
use Rattle.nego_base.proofs.ScanLaws.{no_item, lines_later, no_line}
use Rattle.nego_base.proofs.scanning.all_lines.Goals as goal

pub loop-rest-init : goal.loop-rest-init
unfolding scanned count_lines
loop-rest-init c =
    record { same = ap (λ ls. ls ++ scanned_from 1 (lines c.args.bytes.now)) c.new-lines.ensures; all = omega arith; counted = omega arith }

pub loop-rest-preserved : goal.loop-rest-preserved
loop-rest-preserved c =
    let at = c.loop-rest in
    let cut = c.cut_line.ensures in
    record {
      same = lines_later (at.count + 1) at.rest.now c.cut_line.result.0.now c.cut_line.result.1.now c.line_body.result.now
          (record { cut = cut.lines; ended = c.line_body.ensures.body }) c.args.bytes.now at.lines c.add_line.new.lines at.invariant.same c.in_ok-add_line.ensures;
      all = omega (arith, at.invariant.all, ap length cut.lines);
      counted = omega (arith, at.invariant.counted, cut.whole, cut.filled);
    }

pub returns-clause-lines : goal.returns-clause-lines
returns-clause-lines c =
    let at = c.loop-rest in
    no_line (at.count + 1) c.args.bytes.now at.rest.now at.lines at.invariant.same
    (no_item at.rest.now (sym c.is_empty.ensures ∙ c.loop-rest-test.false))
