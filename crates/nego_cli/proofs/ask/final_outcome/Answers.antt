use Rattle.std.proofs.Common.{◌<◌, arith}
use Rattle.nego_cli.proofs.Answers.{number_at}
use Rattle.nego_cli.proofs.ask.final_outcome.Goals as goal

pub overflow_add-result : goal.overflow_add-result
overflow_add-result c =
    let start = c.outcomes_of-first.result.0 in
    let count = c.outcomes_of-first.result.1 in
    let there : c.args.place < count = (number_at c.args.d.now start count c.args.place c.last.result.0 c.last.ensures.value c.outcomes_of-first.ensures.value c.requires).0 in
    omega (arith, there, c.outcomes_of-first.ensures.in_range, c.outcomes_of-first.ensures.limits.few_outcomes)

pub returns-clause-value : goal.returns-clause-value
returns-clause-value c = (number_at c.args.d.now c.outcomes_of-first.result.0 c.outcomes_of-first.result.1 c.args.place c.last.result.0 c.last.ensures.value c.outcomes_of-first.ensures.value c.requires).1

pub returns-clause-in_range : goal.returns-clause-in_range
returns-clause-in_range c =
    let start = c.outcomes_of-first.result.0 in
    let count = c.outcomes_of-first.result.1 in
    let there : c.args.place < count = (number_at c.args.d.now start count c.args.place c.last.result.0 c.last.ensures.value c.outcomes_of-first.ensures.value c.requires).0 in
    omega (arith, there, c.outcomes_of-first.ensures.in_range)
