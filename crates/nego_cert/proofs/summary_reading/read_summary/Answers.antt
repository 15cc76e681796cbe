use Rattle.nego_cert.proofs.SummaryTexts.{walk_caused, walk_spelled, is_unspelled}
use Rattle.nego_cert.proofs.summary_reading.read_summary.Goals as goal

pub returns-clause-spelled : goal.returns-clause-spelled
returns-clause-spelled c =
    walk_spelled c.summary.result c.args.bytes.now c.as_slice.result.now c.in_ok-lines.lines.lines c.in_ok-lines.lines.count c.in_ok-lines.ensures.sound c.in_ok-lines.ensures.lines c.in_ok-lines.ensures.count c.as_slice.ensures c.summary.ensures

pub returns-clause-fault : goal.returns-clause-fault
returns-clause-fault c =
    walk_caused c.summary.result c.args.bytes.now c.as_slice.result.now c.in_ok-lines.lines.lines c.in_ok-lines.lines.count c.in_ok-lines.ensures.sound c.in_ok-lines.ensures.lines c.in_ok-lines.ensures.count c.as_slice.ensures c.summary.ensures

pub returns-clause-unspelled : goal.returns-clause-unspelled
returns-clause-unspelled c =
    is_unspelled c.summary.result c.args.bytes.now
    (walk_caused c.summary.result c.args.bytes.now c.as_slice.result.now c.in_ok-lines.lines.lines c.in_ok-lines.lines.count c.in_ok-lines.ensures.sound c.in_ok-lines.ensures.lines c.in_ok-lines.ensures.count c.as_slice.ensures c.summary.ensures)
