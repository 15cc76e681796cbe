use Rattle.nego_expr.proofs.FreshWorks.{fresh_works, fresh_works_runs}
use Rattle.nego_expr.proofs.KeptWorks.{kept_stands}
use Rattle.nego_expr.proofs.laws.fresh_works_stand.Goals as goal

pub returns-clause-stand : goal.returns-clause-stand
returns-clause-stand c = fresh_works

pub returns-clause-runs : goal.returns-clause-runs
returns-clause-runs c = fresh_works_runs

pub returns-clause-kept : goal.returns-clause-kept
returns-clause-kept c = kept_stands
