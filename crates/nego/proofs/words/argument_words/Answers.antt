use Rattle.nego.proofs.Behind.{next_taken, none_left}
use Rattle.nego.proofs.words.argument_words.Goals as goal

pub loop-words-preserved : goal.loop-words-preserved
loop-words-preserved g c =
    next_taken (g.A.Arguments.told c.args.arguments.now) c.loop-words.words c.as_slice.result.now c.push.new.self c.in-Some.word c.in_ok-word.field-0 c.loop-words.invariant c.in_ok-word.ensures c.as_slice.ensures
    c.in-Some.is c.in_ok-push.ensures.ok

pub returns : goal.returns
returns g c =
    none_left (g.A.Arguments.told c.args.arguments.now) c.loop-words.words c.as_slice.result.now c.in_ok-word.field-0 c.loop-words.invariant c.in_ok-word.ensures c.as_slice.ensures c.in_default.is
