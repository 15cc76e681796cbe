use Rattle.std.proofs.Common.{arith}
use Rattle.nego_expr.specs.WorkView.{plain_outcome}
use Rattle.nego_shortcut.proofs.Sent.{sent_all}
use Rattle.nego_shortcut.proofs.through.redirect.Goals as goal

pub returns : goal.returns
returns c = sent_all c.args.targets.now c.args.parties (plain_outcome c.args.y.now) c.loop-a.a c.args.agents c.loop-a.targets c.loop-a.invariant c.requires.fit (omega (arith, c.loop-a-test.false))
