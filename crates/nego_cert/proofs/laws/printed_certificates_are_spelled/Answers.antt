use Rattle.nego_cert.proofs.PrintedCertificates.{printed_spelled, spelled_short}
use Rattle.nego_cert.proofs.laws.printed_certificates_are_spelled.Goals as goal

pub returns-clause-spelled : goal.returns-clause-spelled
returns-clause-spelled c = printed_spelled

pub returns-clause-numbers : goal.returns-clause-numbers
returns-clause-numbers c = spelled_short
