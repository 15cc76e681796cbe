use Rattle.std.proofs.Common.{length, sym, ap, ◌∙◌}
use Rattle.nego_expr.specs.WorkView.{plain_outcome}
use Rattle.nego_shortcut.specs.Passing.{passed_one}
use Rattle.nego_shortcut.proofs.Passed.{set_passed}
use Rattle.nego_shortcut.proofs.ShortWorks.{length-through}
use Rattle.nego_shortcut.proofs.through.pass.Goals as goal

pub set_outcome-requires-clause-fit : goal.set_outcome-requires-clause-fit
set_outcome-requires-clause-fit c =
    ap length c.targets_through-targets.ensures ∙ (length-through c.args.w.now.plain c.args.n.0 (plain_outcome c.args.x.now) (plain_outcome c.args.y.now) ∙ sym (ap (λ w. w.agents) c.add_node-node.ensures.plain))

pub add_outcome-requires-clause-fit : goal.add_outcome-requires-clause-fit
add_outcome-requires-clause-fit c =
    ap length c.targets_through-targets.ensures ∙ (length-through c.args.w.now.plain c.args.n.0 (plain_outcome c.args.x.now) (plain_outcome c.args.y.now) ∙ sym (ap (λ w. w.agents) c.add_node-node.ensures.plain))

pub returns-then-is_first-clause-plain : goal.returns-then-is_first-clause-plain
returns-then-is_first-clause-plain c =
    let k = c.requires.pass.alive in
    set_passed c.args.w.now.plain c.args.n.0 (plain_outcome c.args.x.now) (plain_outcome c.args.y.now) k.0 k.1 k.2 c.add_node-node.new.self.plain c.add_node-node.ensures.plain
    c.set_outcome.new.self.plain c.add_node-node.result.0 c.targets_through-targets.result c.with-passed.result c.add_node-node.ensures.number c.targets_through-targets.ensures c.with-passed.ensures.value c.set_outcome.ensures.plain
    ∙ ap (passed_one c.args.w.now.plain c.args.n.0 (plain_outcome c.args.x.now) (plain_outcome c.args.y.now)) (sym c.if-is_first.true)
