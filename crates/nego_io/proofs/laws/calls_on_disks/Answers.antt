use Rattle.nego_io.proofs.CallLaws.{disks-one, disks-then}
use Rattle.nego_io.proofs.laws.calls_on_disks.Goals as goal

pub returns-clause-one : goal.returns-clause-one
returns-clause-one g c = λ i a b. disks-one i (g.D.Disks.told a) (g.D.Disks.told b)

pub returns-clause-then : goal.returns-clause-then
returns-clause-then g c = λ is js a b d. disks-then is js (g.D.Disks.told a) (g.D.Disks.told b) (g.D.Disks.told d)
