use Rattle.std.proofs.Common.{sym, subst}
use Rattle.nego_expr.specs.StandsFor.{HasTheRuns, StandsFor}
use Rattle.nego_expr.proofs.FreshWorks.{fresh_works, fresh_works_runs, has_form}
use Rattle.nego_expr.proofs.work.Work.new.Goals as goal

pub returns-clause-fresh : goal.returns-clause-fresh
returns-clause-fresh c = record {
  diagram_read = c.first_undetermined.ensures.diagram;
  limits = c.build.ensures.limits;
  determined = c.in_default.ensures.none;
  fresh = c.in_ok-build.ensures.fresh;
}

pub returns-clause-stands : goal.returns-clause-stands
returns-clause-stands c =
    subst (λ work. StandsFor work c.args.d.now) (sym c.in_ok-build.ensures.fresh)
    (fresh_works c.args.d.now (has_form c.args.d.now c.first_undetermined.ensures.diagram) c.in_default.ensures.none)

pub returns-clause-runs : goal.returns-clause-runs
returns-clause-runs c =
    subst (λ work. HasTheRuns work c.args.d.now) (sym c.in_ok-build.ensures.fresh)
    (fresh_works_runs c.args.d.now (has_form c.args.d.now c.first_undetermined.ensures.diagram) c.in_default.ensures.none)
