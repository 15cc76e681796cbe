use Rattle.std.proofs.Common.{◌==◌, refl, ◌∙◌, arith, eq-eqb}
use Rattle.std.proofs.lemmas.Bool.{or_left, or_right}
use Rattle.nego_base.specs.Members.{is_in}
use Rattle.nego_eval.proofs.Lacking.{lacked-fewer}
use Rattle.nego_eval.proofs.frame.Frame.follow.Goals as goal

pub returns-clause-fewer : goal.returns-clause-fewer
returns-clause-fewer c =
    let old = c.args.self.now.followed in
    let y = c.args.y in
    lacked-fewer old c.insert.new.self y (λ e h. c.insert.ensures.value e ∙ or_right (y == e) (is_in e old) h) (omega (arith, c.requires.start, c.requires.rows.few)) c.requires.fresh
    (c.insert.ensures.value y ∙ or_left (y == y) (is_in y old) (eq-eqb y y refl))
