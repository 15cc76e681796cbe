use Rattle.nego_shape.proofs.FirstOuts.{next_declared}
use Rattle.nego_shape.proofs.checks.outcomes.on_nexts.Goals as goal

pub on_next-requires-clause-next : goal.on_next-requires-clause-next
on_next-requires-clause-next c = next_declared c.args.p.now c.args.n c.args.out.now c.requires.names.declared c.requires.out c.as_slice-next-items.result.now c.loop-i.i c.next-item.result c.as_slice-next-items.ensures c.loop-i-test.true c.next-item.is
