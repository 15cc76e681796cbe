use Rattle.std.proofs.Common.{◌==◌, ◌∙◌, refl, subst, arith, eq-eqb}
use Rattle.std.proofs.lemmas.Bool.{or_left}
use Rattle.nego_base.specs.Members.{is_in}
use Rattle.nego_model.specs.Joining.{By}
use Rattle.nego_model.specs.Diagram.{relation_of}
use Rattle.nego_eval.specs.declared.rows.Pair.{Pair}
use Rattle.nego_eval.specs.Begun.{IsRowOf}
use Rattle.nego_eval.specs.Frames.{meaning}
use Rattle.nego_eval.proofs.Made.{star_begun, star_made}
use Rattle.nego_eval.proofs.frame.Frame.close.Goals as goal

pub loop-y-init : goal.loop-y-init
loop-y-init c =
    let rows = c.args.rows.now in
    let old = c.args.self.now in
    let start = old.pair.start in
    record {
      pair = refl;
      steps = record { there = c.requires.closing.steps.there; below = c.requires.closing.steps.below; going = star_begun (By (relation_of rows.diagram.now)) rows.nodes.now.nodes c.requires.rows.nodes old.pair.node.0 c.args.child.0 c.requires.closing.node rows.joint start old.met c.insert.new.self old.followed c.requires.closing.steps.there.start c.requires.closing.steps.going c.insert.ensures.value };
      start = c.insert.ensures.value start ∙ or_left (start == start) (is_in start old.met) (eq-eqb start start refl);
    }

pub returns-clause-row : goal.returns-clause-row
returns-clause-row c =
    let rows = c.args.rows.now in
    let row = c.loop-y.self in
    let P : Pair → Type 0 = λ p. IsRowOf (meaning rows p.node.0) rows.joint p.start row.met in
    subst P c.loop-y.invariant.pair
    (star_made (By (relation_of rows.diagram.now)) rows.nodes.now.nodes c.requires.rows.nodes row.pair.node.0 c.args.child.0 (rw c.loop-y.invariant.pair c.requires.closing.node) rows.joint row.pair.start row.met row.followed
    c.loop-y.invariant.steps.going c.loop-y.invariant.start
    (λ e m. let less = c.loop-y.invariant.steps.going.below e m in c.in_default.ensures e (omega arith) (omega (arith, less, c.requires.rows.few)) m))
