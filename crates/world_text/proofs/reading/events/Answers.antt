use Rattle.std.proofs.Common.{◌∷◌, ◌++◌, [], map, Ok, Err, sym, ap, ◌∙◌}
use Rattle.std.proofs.lemmas.Result.{err_from_is_err_and}
use Rattle.nego_base.specs.LineGrammar.{missing_end}
use Rattle.nego_base.specs.declared.fault.Fault.{Fault}
use Rattle.world_text.specs.ScheduleReading.{walk, plain_items}
use Rattle.world_text.specs.ScheduleTable.{Behind}
use Rattle.world_text.specs.ScheduleText.{EventRow, EndRow}
use Rattle.world_text.proofs.Walking.{event_more, event_fault, end_only, end_ok, end_missing}
use Rattle.world_text.proofs.reading.events.Goals as goal

pub returns-in_err-event : goal.returns-in_err-event
returns-in_err-event c =
    let p = err_from_is_err_and c.from_residual.result c.from_residual.ensures.1 in
    let missing = missing_end c.args.count in
    rw (p.1, p.2) (event_fault c.args.d.now missing (walk c.args.d.now missing (Behind 0) c.args.lines.now) c.loop-line.events c.args.lines.now c.loop-line.line-index c.len.result c.line-item.result c.in_err-event.field-0.0
    c.loop-line-test.true c.line-item.is c.len.ensures c.in_err-event.ensures c.loop-line.invariant)

pub returns-in_err-nothing_behind : goal.returns-in_err-nothing_behind
returns-in_err-nothing_behind c =
    let p = err_from_is_err_and c.from_residual-in_err-nothing_behind.result c.from_residual-in_err-nothing_behind.ensures.1 in
    let missing = missing_end c.args.count in
    rw (p.1, p.2) (sym (end_only c.args.d.now missing (walk c.args.d.now missing (Behind 0) c.args.lines.now) c.loop-line.events c.args.lines.now c.loop-line.line-index c.len.result c.len-in_default.result c.line-item.result
    c.in_ok-event.field-0 (Err c.in_err-nothing_behind.field-0.0) c.loop-line-test.true c.line-item.is c.len.ensures c.len-in_default.ensures c.in_default.is c.in_ok-event.ensures (c.in_err-nothing_behind.ensures missing) c.loop-line.invariant))

pub returns-in_default : goal.returns-in_default
returns-in_default c =
    let missing = missing_end c.args.count in
    let total = walk c.args.d.now missing (Behind 0) c.args.lines.now in
    end_ok c.args.d.now missing total (map EventRow (plain_items c.loop-line.events) ++ EndRow ∷ [])
    (end_only c.args.d.now missing total c.loop-line.events c.args.lines.now c.loop-line.line-index c.len.result c.len-in_default.result c.line-item.result
    c.in_ok-event.field-0 (Ok []) c.loop-line-test.true c.line-item.is c.len.ensures c.len-in_default.ensures c.in_default.is c.in_ok-event.ensures (c.in_ok-nothing_behind.ensures missing) c.loop-line.invariant)

pub loop-line-preserved : goal.loop-line-preserved
loop-line-preserved c =
    let missing = missing_end c.args.count in
    rw c.in_ok-push.ensures.ok (event_more c.args.d.now missing (walk c.args.d.now missing (Behind 0) c.args.lines.now) c.loop-line.events c.args.lines.now c.loop-line.line-index c.len.result c.line-item.result
    c.in_ok-event.field-0 c.in-Some.event c.loop-line-test.true c.line-item.is c.len.ensures c.in-Some.is c.in_ok-event.ensures c.loop-line.invariant)

pub returns : goal.returns
returns c =
    let missing = missing_end c.args.count in
    end_missing c.args.d.now missing (walk c.args.d.now missing (Behind 0) c.args.lines.now) (plain_items c.loop-line.events) c.args.lines.now c.loop-line.line-index c.loop-line-test.false c.loop-line.invariant.1
    ∙ ap (λ (fault : Fault). Err fault) (sym c.missing_end.ensures)
