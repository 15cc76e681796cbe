use Rattle.nego_reduce.proofs.OneAtom.{one_atom_none}
use Rattle.nego_reduce.proofs.laws.one_atom_allows_no_use.Goals as goal

pub returns : goal.returns
returns c = one_atom_none
