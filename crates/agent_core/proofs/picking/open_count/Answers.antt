use Rattle.std.proofs.Common.{◌∙◌, ◌+◌, ℕ, length, nat_lt, ap, rules, tests, arith}
use Rattle.std.specs.List.{filter}
use Rattle.std.proofs.lemmas.Iterator.{YieldsList-from_range}
use Rattle.std.proofs.lemmas.Iterator.Consumers.{YieldsList-from_filter, count_from_yields_List}
use Rattle.agent_core.specs.Deciding.{related_by}
use Rattle.agent_core.proofs.Open.{some_open}
use Rattle.agent_core.proofs.picking.open_count.Goals as goal

pub returns-clause-value : goal.returns-clause-value
returns-clause-value c =
    let start = c.outcomes_of-start.result.0 in
    let count = c.outcomes_of-start.result.1 in
    let test = λ (o : ℕ). nat_lt 0 (length (related_by c.args.d.now o c.args.joint)) in
    count_from_yields_List c.filter.result c.count.result c.count.ensures.ran
    (YieldsList-from_filter _ test (YieldsList-from_range start (start + count) count (search rules) (omega arith)) c.filter.ensures.closure (λ x r q k. search (rules, tests)))
    ∙ ap (λ os. length (filter test os)) c.outcomes_of-start.ensures.value

pub returns-clause-some : goal.returns-clause-some
returns-clause-some c =
    let some = some_open c.args.d.now c.args.n.0 c.args.joint c.requires.diagram c.requires.atom c.requires.joint in
    omega (arith, some, returns-clause-value c)
