use Rattle.std.proofs.Common.{subst}
use Rattle.std.specs.Prelude.{IfNone}
use Rattle.nego_expr.specs.Lead.{Lead, Allowed}
use Rattle.nego_cert.specs.Replay.{uses_on}
use Rattle.nego_cert.proofs.Verdicts.{finished_tells, finished_verdict}
use Rattle.nego_cert.proofs.replaying.replay.Goals as goal

pub returns-in-None-clause-tells : goal.returns-in-None-clause-tells
returns-in-None-clause-tells c =
    let work = c.in_ok-work.work.plain in
    let end = c.make_all.new.work.plain in
    let uses = uses_on c.as_slice.result.now in
    let leads : Lead Allowed work uses end = subst (λ o. IfNone o (Lead Allowed work uses end)) c.in-None.is c.in_ok-line.ensures.all in
    finished_tells c.args.d.now work end uses c.finish.result c.in_ok-work.ensures.fresh c.in_ok-work.ensures.stands leads c.finish.ensures

pub returns-in-None-clause-verdict : goal.returns-in-None-clause-verdict
returns-in-None-clause-verdict c =
    let work = c.in_ok-work.work.plain in
    let end = c.make_all.new.work.plain in
    let uses = uses_on c.as_slice.result.now in
    let leads : Lead Allowed work uses end = subst (λ o. IfNone o (Lead Allowed work uses end)) c.in-None.is c.in_ok-line.ensures.all in
    finished_verdict c.args.d.now work end c.as_slice.result.now c.args.c.now.uses c.finish.result c.as_slice.ensures c.in_ok-work.ensures.fresh.fresh leads c.finish.ensures
