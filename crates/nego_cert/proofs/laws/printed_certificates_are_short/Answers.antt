use Rattle.nego_cert.proofs.PrintedCertificates.{printed_short}
use Rattle.nego_cert.proofs.laws.printed_certificates_are_short.Goals as goal

pub returns : goal.returns
returns c = printed_short
