use Rattle.std.proofs.Common.{◌||◌, ap, ◌∙◌}
use Rattle.nego_base.specs.Members.{is_in}
use Rattle.nego_model.specs.Joining.{By}
use Rattle.nego_model.specs.Diagram.{relation_of}
use Rattle.nego_eval.proofs.Made.{join_made}
use Rattle.nego_eval.proofs.frame.Frame.join.Goals as goal

pub returns-clause-row : goal.returns-clause-row
returns-clause-row c =
    let rows = c.args.rows.now in
    let pair = c.args.self.now.pair in
    join_made (By (relation_of rows.diagram.now)) rows.nodes.now.nodes c.requires.rows.nodes pair.node.0 c.args.one.0 c.args.two.0 rows.joint pair.start c.in_ok-ones.ones.now c.in_ok-twos.twos.now c.add-2.new.self
    c.requires.node c.in_ok-ones.ensures.row c.in_ok-twos.ensures.row
    (λ e. c.add-2.ensures.value e ∙ ap (λ b. b || is_in e c.in_ok-twos.twos.now) (c.add.ensures.value e ∙ ap (λ b. b || is_in e c.in_ok-ones.ones.now) (c.none-met.ensures.value e)))
