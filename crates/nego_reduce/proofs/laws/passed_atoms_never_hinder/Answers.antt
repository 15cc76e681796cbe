use Rattle.nego_reduce.proofs.complete.AcyclicWorks.{acyclic_works_enter_anew}
use Rattle.nego_reduce.proofs.laws.passed_atoms_never_hinder.Goals as goal

pub returns : goal.returns
returns c = acyclic_works_enter_anew
