use Rattle.nego_expr.proofs.Leading.{leading_stands, leading_one}
use Rattle.nego_expr.proofs.laws.uses_that_lead.Goals as goal

pub returns-clause-stand : goal.returns-clause-stand
returns-clause-stand c = leading_stands

pub returns-clause-one : goal.returns-clause-one
returns-clause-one c = leading_one
