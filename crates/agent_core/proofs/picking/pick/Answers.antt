use Rattle.std.proofs.Common.{arith}
use Rattle.agent_core.proofs.Numbers.{outcome-below}
use Rattle.agent_core.proofs.Open.{open-outcome}
use Rattle.agent_core.proofs.picking.pick.Goals as goal

pub related_count-count-requires-clause-outcome : goal.related_count-count-requires-clause-outcome
related_count-count-requires-clause-outcome c =
    outcome-below c.args.d.now c.args.n.0 c.open_outcome-o.result.0 (open-outcome c.args.d.now c.args.n.0 c.args.joint c.open_outcome-o.result.0 c.open_outcome-o.ensures.open).1

pub nonzero_rem-pick : goal.nonzero_rem-pick
nonzero_rem-pick c =
    let some = (open-outcome c.args.d.now c.args.n.0 c.args.joint c.open_outcome-o.result.0 c.open_outcome-o.ensures.open).0 in
    omega (arith, some, c.related_count-count.ensures)

pub related_joint-requires-clause-outcome : goal.related_joint-requires-clause-outcome
related_joint-requires-clause-outcome c =
    outcome-below c.args.d.now c.args.n.0 c.open_outcome-o.result.0 (open-outcome c.args.d.now c.args.n.0 c.args.joint c.open_outcome-o.result.0 c.open_outcome-o.ensures.open).1

pub related_joint-requires-clause-place : goal.related_joint-requires-clause-place
related_joint-requires-clause-place c =
    let some = (open-outcome c.args.d.now c.args.n.0 c.args.joint c.open_outcome-o.result.0 c.open_outcome-o.ensures.open).0 in
    omega (arith, some, c.related_count-count.ensures)

pub returns-clause-own : goal.returns-clause-own
returns-clause-own c = (open-outcome c.args.d.now c.args.n.0 c.args.joint c.open_outcome-o.result.0 c.open_outcome-o.ensures.open).1
