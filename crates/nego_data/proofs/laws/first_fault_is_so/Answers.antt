use Rattle.nego_data.proofs.SizeFaults.{first_fault_is_so}
use Rattle.nego_data.proofs.laws.first_fault_is_so.Goals as goal

pub returns : goal.returns
returns c = first_fault_is_so
