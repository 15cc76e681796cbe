use Rattle.nego_expr.proofs.OneAtomLeft.{one_atom_works}
use Rattle.nego_expr.proofs.laws.one_atom_works_are_sound.Goals as goal

pub returns : goal.returns
returns c = one_atom_works
