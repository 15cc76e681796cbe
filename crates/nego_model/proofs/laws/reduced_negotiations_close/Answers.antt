use Rattle.nego_model.proofs.completeness.Closable.{first_alone, closable}
use Rattle.nego_model.proofs.laws.reduced_negotiations_close.Goals as goal

pub returns-clause-alone : goal.returns-clause-alone
returns-clause-alone c = first_alone

pub returns-clause-closable : goal.returns-clause-closable
returns-clause-closable c = closable
