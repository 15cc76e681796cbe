use Rattle.std.proofs.Common.{◌+◌, ◌-◌, length, sym, ◌∙◌}
use Rattle.nego_base.proofs.ScanLaws.{no_item, no_word}
use Rattle.nego_base.proofs.scanning.words_of.Goals as goal

pub returns : goal.returns
returns c =
    let rest = c.loop-rest.rest.now in
    no_word c.args.number (1 + (length c.args.line.now - length rest)) c.args.line.now rest c.loop-rest.words c.loop-rest.invariant.same
    (no_item rest (sym c.is_empty.ensures ∙ c.loop-rest-test.false))
