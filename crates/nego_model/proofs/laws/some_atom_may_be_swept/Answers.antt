use Rattle.nego_model.proofs.completeness.Sweeping.{some_swept}
use Rattle.nego_model.proofs.laws.some_atom_may_be_swept.Goals as goal

pub returns : goal.returns
returns c = some_swept
