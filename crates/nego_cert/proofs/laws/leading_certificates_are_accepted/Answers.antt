use Rattle.nego_cert.proofs.Verdicts.{leading_accepted}
use Rattle.nego_cert.proofs.laws.leading_certificates_are_accepted.Goals as goal

pub returns : goal.returns
returns c = leading_accepted
