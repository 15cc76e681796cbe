use Rattle.nego_cli.proofs.Verdicts.{judged}
use Rattle.nego_cli.proofs.reduction.reduction.Goals as goal

pub returns : goal.returns
returns g c =
    judged c.args.d.now c.args.work.plain c.in_ok-reduced.reduced c.in_ok-verdict.verdict c.requires.fresh c.requires.stands c.in_ok-reduced.ensures.reduction
    (c.in_ok-reduced.ensures.few c.args.d.now c.requires.fresh) (c.in_ok-reduced.ensures.decided c.args.d.now c.requires.fresh) c.in_ok-verdict.ensures
