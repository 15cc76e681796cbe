use Rattle.std.proofs.Common.{◌≡◌, Some, slice_get, rules}
use Rattle.nego_model.specs.Joining.{By}
use Rattle.nego_model.specs.Expression.{Star}
use Rattle.nego_model.specs.Diagram.{relation_of}
use Rattle.nego_eval.proofs.Made.{then_leapt}
use Rattle.nego_eval.proofs.frame.Frame.take.Goals as goal

pub returns-in-Ok-find-clause-through : goal.returns-in-Ok-find-clause-through
returns-in-Ok-find-clause-through c =
    let rows = c.args.rows.now in
    let old = c.args.self.now in
    let through = c.requires.through in
    let child = c.in-Some-Star.field-0-0.0 in
    let star : slice_get rows.nodes.now.nodes c.args.first.0 ≡ Some (Star child) = search rules in
    record {
      node = through.node;
      below = through.below;
      steps = record {
        there = through.steps.there;
        below = through.steps.below;
        going = then_leapt (By (relation_of rows.diagram.now)) rows.nodes.now.nodes c.requires.rows.nodes old.pair.node.0 c.args.first.0 c.args.second.0 child rows.joint old.pair.start c.args.y
            old.met old.followed c.in-Ok.whole.now c.in-Ok-find.closed.now c.add.new.self c.add-in-Ok-find.new.self through.node star c.requires.between
            through.steps.going c.in-Ok.ensures.row c.in-Ok-find.ensures.row c.add.ensures.value c.add-in-Ok-find.ensures.value;
      };
    }
