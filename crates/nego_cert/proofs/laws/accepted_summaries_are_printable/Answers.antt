use Rattle.nego_cert.proofs.AcceptedSummaries.{accepted_printable}
use Rattle.nego_cert.proofs.laws.accepted_summaries_are_printable.Goals as goal

pub returns : goal.returns
returns c = accepted_printable
