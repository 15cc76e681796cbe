use Rattle.nego_cert.proofs.Verdicts.{verdicts_one}
use Rattle.nego_cert.proofs.laws.verdicts_are_one.Goals as goal

pub returns : goal.returns
returns c = verdicts_one
