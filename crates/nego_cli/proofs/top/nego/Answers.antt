use Rattle.nego_cli.specs.Effect.{effect}
use Rattle.nego_cli.proofs.Ends.{what_is_said, usage_shown, refusal_shown, text_shown, out_kept, err_kept}
use Rattle.nego_cli.proofs.Found.{found_named}
use Rattle.nego_cli.proofs.Headlines.{headline}
use Rattle.nego_cli.proofs.ReplayHeadlines.{replay_headline}
use Rattle.nego_cli.proofs.RunHeadlines.{run_headline}
use Rattle.nego_cli.proofs.MadeShown.{made_shown}
use Rattle.nego_cli.proofs.top.nego.Goals as goal

pub deliver-requires : goal.deliver-requires
deliver-requires g c =
    found_named c.args.words.now (effect g.S.Source.left g.S.Source.faults c.args.source.now c.find_answer-answer.new.source) c.find_answer-answer.result c.find_answer-answer.ensures.found

pub returns-clause-says : goal.returns-clause-says
returns-clause-says g c =
    what_is_said c.args.words.now
    (effect g.S.Source.left g.S.Source.faults c.args.source.now c.find_answer-answer.new.source)
    (effect g.O.Sink.taken g.O.Sink.faults c.args.out.now c.deliver.new.out)
    (effect g.E.Sink.taken g.E.Sink.faults c.args.err.now c.deliver.new.err)
    c.find_answer-answer.result c.deliver.result c.find_answer-answer.ensures.found c.deliver.ensures.delivered

pub returns-clause-usage : goal.returns-clause-usage
returns-clause-usage g c =
    usage_shown c.args.words.now
    (effect g.S.Source.left g.S.Source.faults c.args.source.now c.find_answer-answer.new.source)
    (effect g.O.Sink.taken g.O.Sink.faults c.args.out.now c.deliver.new.out)
    (effect g.E.Sink.taken g.E.Sink.faults c.args.err.now c.deliver.new.err)
    c.find_answer-answer.result c.deliver.result c.find_answer-answer.ensures.found c.deliver.ensures.delivered

pub returns-clause-refusal : goal.returns-clause-refusal
returns-clause-refusal g c =
    refusal_shown c.args.words.now
    (effect g.S.Source.left g.S.Source.faults c.args.source.now c.find_answer-answer.new.source)
    (effect g.O.Sink.taken g.O.Sink.faults c.args.out.now c.deliver.new.out)
    (effect g.E.Sink.taken g.E.Sink.faults c.args.err.now c.deliver.new.err)
    c.find_answer-answer.result c.deliver.result c.find_answer-answer.ensures.found c.deliver.ensures.delivered

pub returns-clause-text : goal.returns-clause-text
returns-clause-text g c =
    text_shown c.args.words.now
    (effect g.S.Source.left g.S.Source.faults c.args.source.now c.find_answer-answer.new.source)
    (effect g.O.Sink.taken g.O.Sink.faults c.args.out.now c.deliver.new.out)
    (effect g.E.Sink.taken g.E.Sink.faults c.args.err.now c.deliver.new.err)
    c.find_answer-answer.result c.deliver.result c.find_answer-answer.ensures.found c.deliver.ensures.delivered

pub returns-clause-headline : goal.returns-clause-headline
returns-clause-headline g c =
    let source = effect g.S.Source.left g.S.Source.faults c.args.source.now c.find_answer-answer.new.source in
    let out = effect g.O.Sink.taken g.O.Sink.faults c.args.out.now c.deliver.new.out in
    let err = effect g.E.Sink.taken g.E.Sink.faults c.args.err.now c.deliver.new.err in
    let found = c.find_answer-answer.ensures.found in
    let put = c.deliver.ensures.delivered in
    headline c.args.words.now source out err c.deliver.result
    (what_is_said c.args.words.now source out err c.find_answer-answer.result c.deliver.result found put)
    (text_shown c.args.words.now source out err c.find_answer-answer.result c.deliver.result found put)

pub returns-clause-certificate : goal.returns-clause-certificate
returns-clause-certificate g c =
    let source = effect g.S.Source.left g.S.Source.faults c.args.source.now c.find_answer-answer.new.source in
    let out = effect g.O.Sink.taken g.O.Sink.faults c.args.out.now c.deliver.new.out in
    let err = effect g.E.Sink.taken g.E.Sink.faults c.args.err.now c.deliver.new.err in
    let found = c.find_answer-answer.ensures.found in
    let put = c.deliver.ensures.delivered in
    replay_headline c.args.words.now source out err c.deliver.result
    (what_is_said c.args.words.now source out err c.find_answer-answer.result c.deliver.result found put)
    (text_shown c.args.words.now source out err c.find_answer-answer.result c.deliver.result found put)

pub returns-clause-schedule : goal.returns-clause-schedule
returns-clause-schedule g c = λ values asks.
    let source = effect g.S.Source.left g.S.Source.faults c.args.source.now c.find_answer-answer.new.source in
    let out = effect g.O.Sink.taken g.O.Sink.faults c.args.out.now c.deliver.new.out in
    let err = effect g.E.Sink.taken g.E.Sink.faults c.args.err.now c.deliver.new.err in
    let found = c.find_answer-answer.ensures.found in
    let put = c.deliver.ensures.delivered in
    run_headline values c.args.words.now source out err c.deliver.result
    (what_is_said c.args.words.now source out err c.find_answer-answer.result c.deliver.result found put)
    (text_shown c.args.words.now source out err c.find_answer-answer.result c.deliver.result found put)
    (refusal_shown c.args.words.now source out err c.find_answer-answer.result c.deliver.result found put) asks

pub returns-clause-made : goal.returns-clause-made
returns-clause-made g c =
    λ n. made_shown c.args.words.now
    (effect g.S.Source.left g.S.Source.faults c.args.source.now c.find_answer-answer.new.source)
    (effect g.O.Sink.taken g.O.Sink.faults c.args.out.now c.deliver.new.out)
    (effect g.E.Sink.taken g.E.Sink.faults c.args.err.now c.deliver.new.err)
    c.find_answer-answer.result c.deliver.result n c.find_answer-answer.ensures.found c.deliver.ensures.delivered

pub returns-clause-out_untouched : goal.returns-clause-out_untouched
returns-clause-out_untouched g c =
    out_kept c.args.out.now c.deliver.new.out c.args.words.now
    (effect g.S.Source.left g.S.Source.faults c.args.source.now c.find_answer-answer.new.source)
    (effect g.O.Sink.taken g.O.Sink.faults c.args.out.now c.deliver.new.out)
    (effect g.E.Sink.taken g.E.Sink.faults c.args.err.now c.deliver.new.err)
    c.find_answer-answer.result c.deliver.result c.find_answer-answer.ensures.found c.deliver.ensures.delivered c.deliver.ensures.out_untouched

pub returns-clause-err_untouched : goal.returns-clause-err_untouched
returns-clause-err_untouched g c =
    err_kept c.args.err.now c.deliver.new.err
    (effect g.O.Sink.taken g.O.Sink.faults c.args.out.now c.deliver.new.out)
    (effect g.E.Sink.taken g.E.Sink.faults c.args.err.now c.deliver.new.err)
    c.find_answer-answer.result c.deliver.result c.deliver.ensures.delivered c.deliver.ensures.err_untouched
