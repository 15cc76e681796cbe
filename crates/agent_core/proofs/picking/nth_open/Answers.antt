use Rattle.std.proofs.Common.{◌∙◌, ◌+◌, ℕ, length, slice_get, nat_lt, ap, sym, rules, tests, arith}
use Rattle.std.specs.List.{filter}
use Rattle.std.proofs.lemmas.Iterator.{YieldsList-from_range}
use Rattle.std.proofs.lemmas.Iterator.Consumers.{YieldsList-from_filter, nth_from_yields_List}
use Rattle.std.proofs.lemmas.Iterator.Adapters.{option_map_id}
use Rattle.agent_core.specs.Deciding.{related_by}
use Rattle.agent_core.proofs.picking.nth_open.Goals as goal

pub returns : goal.returns
returns c =
    let start = c.outcomes_of-start.result.0 in
    let count = c.outcomes_of-start.result.1 in
    let test = λ (o : ℕ). nat_lt 0 (length (related_by c.args.d.now o c.args.joint)) in
    sym (option_map_id c.nth.result)
    ∙ nth_from_yields_List c.nth.result c.nth.new.self c.args.k c.nth.ensures.ran
    (YieldsList-from_filter _ test (YieldsList-from_range start (start + count) count (search rules) (omega arith)) c.filter-open.ensures.closure (λ x r q k. search (rules, tests)))
    ∙ ap (λ os. slice_get (filter test os) c.args.k) c.outcomes_of-start.ensures.value
