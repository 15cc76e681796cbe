use Rattle.std.proofs.Common.{length, ap, ◌∙◌, arith}
use Rattle.nego_io.proofs.OutsideLaws.{put_front, put_more}
use Rattle.nego_io.proofs.put.put_all.Goals as goal

pub returns-in-Ok-eq0-clause-err : goal.returns-in-Ok-eq0-clause-err
returns-in-Ok-eq0-clause-err g c =
    let taken = g.O.Sink.taken in
    let nothing = rw c.in-Ok-eq0.field-0-test at c.in-Ok-eq0.ensures.taken in
    put_front c.args.bytes.now c.loop-done.done (taken c.args.sink.now) (taken c.loop-done.sink) (taken c.put.new.self) c.loop-done-test.true c.loop-done.invariant.told nothing

pub loop-done-preserved : goal.loop-done-preserved
loop-done-preserved g c =
    let taken = g.O.Sink.taken in
    let before = c.loop-done.invariant in
    record {
      within = omega (arith, c.in-Ok.ensures.count);
      told = put_more c.args.bytes.now c.loop-done.done c.in-Ok.n (taken c.args.sink.now) (taken c.loop-done.sink) (taken c.put.new.self) before.told c.in-Ok.ensures.taken;
      stayed = c.in-Ok.ensures.cause.stayed (λ none. absurd (c.in-Ok.n-test.1 none)) ∙ before.stayed;
      nothing = λ none. absurd (omega (arith, ap length none, c.loop-done-test.true));
    }

pub returns-in-Err-clause-err : goal.returns-in-Err-clause-err
returns-in-Err-clause-err g c =
    let taken = g.O.Sink.taken in
    put_front c.args.bytes.now c.loop-done.done (taken c.args.sink.now) (taken c.loop-done.sink) (taken c.put.new.self) c.loop-done-test.true c.loop-done.invariant.told c.in-Err.ensures.err
