use Rattle.std.proofs.Common.{◌≡◌, ◌<◌, Some, slice_get, inr, refl, sym, subst, ◌∙◌, arith}
use Rattle.nego_model.specs.Joining.{By}
use Rattle.nego_model.specs.Expression.{Then}
use Rattle.nego_model.specs.Diagram.{relation_of}
use Rattle.nego_eval.specs.declared.rows.Pair.{Pair}
use Rattle.nego_eval.specs.Begun.{IsBegun}
use Rattle.nego_eval.specs.Frames.{meaning}
use Rattle.nego_eval.proofs.Made.{then_step, then_made}
use Rattle.nego_eval.proofs.frame.Frame.through.Goals as goal

pub loop-y-init : goal.loop-y-init
loop-y-init c = record { pair = refl; through = c.take_kept.ensures.through }

pub follow-requires-clause-start : goal.follow-requires-clause-start
follow-requires-clause-start c = c.in_ok-middle.ensures.row.below c.in-Some.y c.in-Some.ensures.0

pub follow-requires-clause-sound : goal.follow-requires-clause-sound
follow-requires-clause-sound c =
    let rows = c.args.rows.now in
    let pair = c.loop-y.self.pair in
    let P : Pair → Type 0 = λ p. meaning rows c.args.first.0 p.start c.in-Some.y in
    λ e w. then_step (By (relation_of rows.diagram.now)) rows.nodes.now.nodes c.requires.rows.nodes pair.node.0 c.args.first.0 c.args.second.0 pair.start c.in-Some.y e c.loop-y.invariant.through.node
    (subst P (sym (c.loop-y.invariant.pair ∙ c.take_kept.ensures.pair)) ((c.in_ok-middle.ensures.row.exact c.in-Some.y).0 c.in-Some.ensures.0)) w

pub follow-requires-clause-asks : goal.follow-requires-clause-asks
follow-requires-clause-asks c =
    let P : Pair → Type 0 = λ p. meaning c.args.rows.now c.args.first.0 p.start c.in-Some.y in
    record {
      node = Then c.args.first.0 c.args.second.0;
      here = c.loop-y.invariant.through.node;
      asks = inr (refl, subst P (sym (c.loop-y.invariant.pair ∙ c.take_kept.ensures.pair)) ((c.in_ok-middle.ensures.row.exact c.in-Some.y).0 c.in-Some.ensures.0));
    }

pub follow-requires-clause-steps : goal.follow-requires-clause-steps
follow-requires-clause-steps c = c.loop-y.invariant.through.steps

pub loop-y-preserved : goal.loop-y-preserved
loop-y-preserved c =
    let nodes = c.args.rows.now.nodes.now.nodes in
    let through = c.loop-y.invariant.through in
    let P : Pair → Type 0 = λ p. slice_get nodes p.node.0 ≡ Some (Then c.args.first.0 c.args.second.0) in
    let Q : Pair → Type 0 = λ p. c.args.first.0 < p.node.0 in
    record {
      pair = c.follow.ensures.pair ∙ c.loop-y.invariant.pair;
      through = record { node = subst P (sym c.follow.ensures.pair) through.node; below = subst Q (sym c.follow.ensures.pair) through.below; steps = c.follow.ensures.steps };
    }

pub returns-clause-row : goal.returns-clause-row
returns-clause-row c =
    let rows = c.args.rows.now in
    let pair = c.args.self.now.pair in
    let row = c.loop-y.self in
    let P : Pair → Type 0 = λ p. IsBegun (meaning rows p.node.0) (meaning rows c.args.second.0) rows.joint p.start row.met row.followed in
    then_made (By (relation_of rows.diagram.now)) rows.nodes.now.nodes c.requires.rows.nodes pair.node.0 c.args.first.0 c.args.second.0 rows.joint pair.start c.in_ok-middle.middle.now row.met row.followed c.requires.through.node
    c.in_ok-middle.ensures.row (subst P (c.loop-y.invariant.pair ∙ c.take_kept.ensures.pair) c.loop-y.invariant.through.steps.going)
    (λ e m. let less = c.in_ok-middle.ensures.row.below e m in c.in_default.ensures e (omega arith) (omega (arith, less, c.requires.rows.few)) m)
