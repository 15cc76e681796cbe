use Rattle.nego_cert.proofs.PrintedSummaries.{printed_spelled, printed_short}
use Rattle.nego_cert.proofs.SummaryParts.{spelled_printable}
use Rattle.nego_cert.proofs.laws.printed_summaries_are_spelled.Goals as goal

pub returns-clause-spelled : goal.returns-clause-spelled
returns-clause-spelled c = printed_spelled

pub returns-clause-printable : goal.returns-clause-printable
returns-clause-printable c = spelled_printable

pub returns-clause-short : goal.returns-clause-short
returns-clause-short c = printed_short
