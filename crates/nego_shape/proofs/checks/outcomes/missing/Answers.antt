use Rattle.std.proofs.Common.{sym, ◌∙◌}
use Rattle.nego_shape.proofs.RuleSets.{none_missing, least_missing}
use Rattle.nego_shape.proofs.checks.outcomes.missing.Goals as goal

pub returns-in_err-a : goal.returns-in_err-a
returns-in_err-a c =
    c.from_residual.ensures
    ∙ none_missing c.args.p.now c.args.numbers.now c.requires.numbers c.args.n c.args.o c.requires.atom c.index-numbers-n.result c.args.out.now (sym c.is_last.ensures ∙ c.if-is_last.false)
    c.args.nexts.now c.requires.nexts c.sent.result c.difference.result c.sent.ensures.members c.difference.ensures.value c.in_err-a.ensures.value

pub returns : goal.returns
returns c =
    least_missing c.args.p.now c.args.numbers.now c.requires.numbers c.args.n c.args.o c.requires.atom c.index-numbers-n.result c.args.out.now (sym c.is_last.ensures ∙ c.if-is_last.false)
    c.args.nexts.now c.requires.nexts c.sent.result c.difference.result c.sent.ensures.members c.difference.ensures.value c.in_ok-a.a c.in_ok-a.ensures.value
