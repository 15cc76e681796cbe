use Rattle.std.proofs.Common.{◌≡◌, ◌∙◌, ◌+◌, ap, arith}
use Rattle.nego_model.specs.Diagram.{parties_of}
use Rattle.nego_expr.proofs.FreshSteps.{pushed}
use Rattle.nego_expr.proofs.fresh.parties_of_atoms.Goals as goal

pub loop-n-preserved : goal.loop-n-preserved
loop-n-preserved c =
    let d = c.args.d.now in
    let n = c.loop-n.n in
    pushed (parties_of d) 0 n c.loop-n.parties c.push.new.self c.parties.result c.in_ok-push.ensures.ok c.loop-n.invariant (c.parties.ensures.value ∙ ap (parties_of d) (let e : n ≡ 0 + n = omega arith in e))
