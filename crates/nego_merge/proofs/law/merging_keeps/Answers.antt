use Rattle.nego_merge.proofs.MergeKeeps.{merging}
use Rattle.nego_merge.proofs.law.merging_keeps.Goals as goal

pub returns : goal.returns
returns c = merging
