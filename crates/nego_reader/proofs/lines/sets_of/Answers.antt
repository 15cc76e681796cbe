use Rattle.std.proofs.Common.{arith}
use Rattle.std.proofs.lemmas.Result.{err_from_is_err_and}
use Rattle.nego_base.specs.LineWalk.{each}
use Rattle.nego_reader.specs.Reading.{set_of}
use Rattle.nego_base.proofs.LineLoops.{each_goes_on, each_stops, each_done}
use Rattle.nego_reader.proofs.lines.sets_of.Goals as goal

pub returns-in_err-set_of : goal.returns-in_err-set_of
returns-in_err-set_of c =
    let p = err_from_is_err_and c.from_residual-in_err-set_of.result c.from_residual-in_err-set_of.ensures.1 in
    rw (p.1, p.2) (each_stops set_of c.in_err-set_of.field-0.0 c.loop-word.sets.items c.args.words.now c.loop-word.word-index c.word-item.result (each set_of c.args.words.now) c.loop-word-test.true c.word-item.is c.in_err-set_of.ensures c.loop-word.invariant.told)

pub loop-word-preserved : goal.loop-word-preserved
loop-word-preserved c = record {
  told = rw c.push.ensures.items (each_goes_on set_of c.loop-word.sets.items c.args.words.now c.loop-word.word-index c.word-item.result c.in_ok-set_of.field-0 (each set_of c.args.words.now) c.loop-word-test.true c.word-item.is c.in_ok-set_of.ensures c.loop-word.invariant.told);
  room = omega (arith, c.push.ensures.room, c.loop-word.invariant.room, c.loop-word-test.true);
}

pub returns : goal.returns
returns c = rw c.into_seq.ensures (each_done set_of c.loop-word.sets.items c.args.words.now c.loop-word.word-index (each set_of c.args.words.now) c.loop-word-test.false c.loop-word.invariant.told)
