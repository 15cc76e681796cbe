use Rattle.std.proofs.Common.{◌||◌, ap, ◌∙◌}
use Rattle.nego_base.specs.Members.{is_in}
use Rattle.nego_base.proofs.Members.{is_in-united}
use Rattle.nego_shape.specs.declared.numbers.NextNumbers.{NextNumbers}
use Rattle.nego_shape.proofs.RuleSets.{members_more}
use Rattle.nego_shape.proofs.checks.outcomes.sent.Goals as goal

pub loop-next-preserved : goal.loop-next-preserved
loop-next-preserved c = (
  c.union-set.ensures.rising,
  members_more (λ a (next : NextNumbers). is_in a next.agents) c.args.nexts.now c.loop-next.next-index c.next-item.result c.loop-next.set c.union-set.result c.loop-next-test.true c.loop-next.invariant.1
      (λ a. ap (is_in a) c.union-set.ensures.value ∙ (is_in-united a c.loop-next.set c.next-item.result.agents ∙ ap (λ (next : NextNumbers). is_in a c.loop-next.set || is_in a next.agents) c.next-item.is)),
)
