use Rattle.std.proofs.Common.{get_or, ap, ◌∙◌}
use Rattle.nego_base.specs.Members.{difference}
use Rattle.nego_shape.proofs.RuleSets.{none_strange, least_strange}
use Rattle.nego_shape.proofs.checks.outcomes.on_next.Goals as goal

pub returns-in_err-a : goal.returns-in_err-a
returns-in_err-a c =
    let parties = (get_or c.args.numbers.now c.args.n c.index-numbers-n.result).parties in
    let made = c.difference-2.ensures.value ∙ ap (difference c.args.own.now.agents) (c.difference-both.ensures.value ∙ ap (difference parties) c.difference.ensures.value) in
    c.from_residual.ensures
    ∙ none_strange c.args.p.now c.args.numbers.now c.requires.numbers c.args.n c.args.o c.requires.atom c.index-numbers-n.result c.args.rule c.in_default.not-LastEnds
    c.args.next.now c.args.own.now c.requires.own c.requires.next c.index-numbers-own.result c.difference-2.result made c.in_err-a.ensures.value

pub returns : goal.returns
returns c =
    let parties = (get_or c.args.numbers.now c.args.n c.index-numbers-n.result).parties in
    let made = c.difference-2.ensures.value ∙ ap (difference c.args.own.now.agents) (c.difference-both.ensures.value ∙ ap (difference parties) c.difference.ensures.value) in
    least_strange c.args.p.now c.args.numbers.now c.requires.numbers c.args.n c.args.o c.requires.atom c.index-numbers-n.result c.args.rule c.in_default.not-LastEnds
    c.args.next.now c.args.own.now c.requires.own c.requires.next c.index-numbers-own.result c.difference-2.result made c.in_ok-a.a c.in_ok-a.ensures.value
