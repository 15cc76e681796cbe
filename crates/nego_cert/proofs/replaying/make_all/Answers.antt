use Rattle.std.proofs.Common.{slice_index_or, refl}
use Rattle.nego_expr.specs.declared.uses.Use.TheVariants.{Merge}
use Rattle.nego_expr.specs.UseView.{plain_use}
use Rattle.nego_cert.specs.declared.cert.CertLine.{CertLine}
use Rattle.nego_cert.specs.declared.verdict.RuleWhy.TheVariants as whys
use Rattle.nego_cert.proofs.MadeLines.{is_allowed, has_room, is_after, fails_guard, fails_nodes, first_failing, made_more}
use Rattle.nego_cert.proofs.replaying.make_all.Goals as goal

-- what is read past the end of the lines
abbrev nothing : CertLine
nothing = record { line = 0; what = Merge (record { 0 = 0 }) (record { 0 = 0 }) }

pub returns-in-Err-Guard-clause-first : goal.returns-in-Err-Guard-clause-first
returns-in-Err-Guard-clause-first c =
    let next = plain_use (slice_index_or c.args.lines.now c.loop-line.line-index nothing).what in
    first_failing c.args.work.now.plain c.loop-line.work.plain c.args.lines.now c.loop-line.line-index nothing c.loop-line-test.true c.loop-line.invariant.0 whys.Guard
    (fails_guard next c.loop-line.work.plain c.make.new.work.plain c.make.result c.make.ensures (rw (c.in-Err-Guard.is, c.in-Err-Guard.field-0-is) refl))

pub returns-in-Err-Nodes-clause-first : goal.returns-in-Err-Nodes-clause-first
returns-in-Err-Nodes-clause-first c =
    let next = plain_use (slice_index_or c.args.lines.now c.loop-line.line-index nothing).what in
    first_failing c.args.work.now.plain c.loop-line.work.plain c.args.lines.now c.loop-line.line-index nothing c.loop-line-test.true c.loop-line.invariant.0 whys.Nodes
    (fails_nodes next c.loop-line.work.plain c.make.new.work.plain c.make.result c.make.ensures (rw (c.in-Err-Nodes.is, c.in-Err-Nodes.field-0-is) refl))

pub loop-line-preserved : goal.loop-line-preserved
loop-line-preserved c =
    let work = c.loop-line.work.plain in
    let new = c.make.new.work.plain in
    let next = plain_use (slice_index_or c.args.lines.now c.loop-line.line-index nothing).what in (
      made_more c.args.work.now.plain work c.args.lines.now c.loop-line.line-index nothing c.loop-line-test.true c.loop-line.invariant.0 new
          (is_allowed next work new c.make.result c.make.ensures c.in-Ok.field-0 c.in-Ok.is)
          (has_room next work new c.make.result c.make.ensures c.in-Ok.field-0 c.in-Ok.is)
          (is_after next work new c.make.result c.make.ensures c.in-Ok.field-0 c.in-Ok.is),
      c.make.ensures.work,
    )
