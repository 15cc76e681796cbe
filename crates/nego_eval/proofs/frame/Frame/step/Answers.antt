use Rattle.std.proofs.Common.{◌==◌, refl, ◌∙◌, arith, eq-eqb}
use Rattle.std.proofs.lemmas.Bool.{or_left, or_right}
use Rattle.nego_base.specs.Members.{is_in}
use Rattle.nego_model.specs.Joining.{By}
use Rattle.nego_model.specs.Diagram.{relation_of}
use Rattle.nego_eval.proofs.Lacking.{lacked-fewer}
use Rattle.nego_eval.proofs.Made.{star_step, star_jumped}
use Rattle.nego_eval.proofs.frame.Frame.step.Goals as goal

pub follow-requires-clause-sound : goal.follow-requires-clause-sound
follow-requires-clause-sound c =
    let rows = c.args.rows.now in
    let pair = c.args.self.now.pair in
    λ e w. star_step (By (relation_of rows.diagram.now)) rows.nodes.now.nodes c.requires.rows.nodes pair.node.0 c.args.child.0 c.requires.closing.node pair.start c.args.y e (c.requires.closing.steps.going.sound c.args.y c.requires.met) w

pub returns-in-Ok-clause-steps : goal.returns-in-Ok-clause-steps
returns-in-Ok-clause-steps c =
    let rows = c.args.rows.now in
    let old = c.args.self.now in
    record {
      there = c.requires.closing.steps.there;
      below = c.requires.closing.steps.below;
      going = star_jumped (By (relation_of rows.diagram.now)) rows.nodes.now.nodes c.requires.rows.nodes old.pair.node.0 c.args.child.0 c.requires.closing.node rows.joint old.pair.start c.args.y old.met old.followed c.in-Ok.closed.now
          c.add.new.self c.add-in-Ok.new.self c.insert.new.self c.requires.closing.steps.going c.in-Ok.ensures.row c.requires.met c.add.ensures.value c.add-in-Ok.ensures.value c.insert.ensures.value;
    }

pub returns-in-Ok-clause-fewer : goal.returns-in-Ok-clause-fewer
returns-in-Ok-clause-fewer c =
    let old = c.args.self.now.followed in
    let between = c.add-in-Ok.new.self in
    let y = c.args.y in
    let below = c.requires.closing.steps.going.below y c.requires.met in
    lacked-fewer old c.insert.new.self y
    (λ e h. c.insert.ensures.value e ∙ or_right (y == e) (is_in e between) (c.add-in-Ok.ensures.value e ∙ or_left (is_in e old) (is_in e c.in-Ok.closed.now) h))
    (omega (arith, below, c.requires.rows.few)) c.requires.fresh
    (c.insert.ensures.value y ∙ or_left (y == y) (is_in y between) (eq-eqb y y refl))
