use Rattle.nego_shape.proofs.FirstOuts.{case_declared}
use Rattle.nego_shape.proofs.checks.outcomes.on_cases.Goals as goal

pub on_case-requires-clause-case : goal.on_case-requires-clause-case
on_case-requires-clause-case c = case_declared c.args.p.now c.args.n c.args.out.now c.requires.names.declared c.requires.out c.as_slice-case-items.result.now c.loop-i.i c.case-item.result c.as_slice-case-items.ensures c.loop-i-test.true c.case-item.is
