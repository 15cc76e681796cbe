use Rattle.nego_cert.proofs.Verdicts.{accepted_tell}
use Rattle.nego_cert.proofs.laws.accepted_certificates_tell.Goals as goal

pub returns : goal.returns
returns c = accepted_tell
