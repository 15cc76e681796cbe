use Rattle.nego_data.proofs.Tuples.{joint_and_split}
use Rattle.nego_data.proofs.laws.joint_and_split_are_inverse.Goals as goal

pub returns : goal.returns
returns c = joint_and_split
