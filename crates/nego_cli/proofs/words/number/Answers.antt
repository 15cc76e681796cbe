use Rattle.std.proofs.Common.{◌≡◌, ◌∙◌, ◌<◌, ◌^◌, true, sym, rules, arith}
use Rattle.nego_base.specs.Number.{is_numeral}
use Rattle.nego_cli.proofs.NumberWords.{too_great}
use Rattle.nego_cli.proofs.words.number.Goals as goal

-- digits that std's reader refuses are those of a number past 64 bits
pub returns-in_err-n : goal.returns-in_err-n
returns-in_err-n c =
    let right : is_numeral c.args.word.now ≡ true = search rules in
    let fits : c.args.most < 2 ^ 64 = omega (arith, c.ranges.most.fits) in
    c.from_residual.ensures ∙ sym (too_great c.args.most c.args.word.now c.parse.result fits right c.parse.ensures.value.0 (sym c.ok.ensures.value ∙ c.in_err-n.was))
