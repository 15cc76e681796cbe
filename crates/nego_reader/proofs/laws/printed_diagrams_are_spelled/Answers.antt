use Rattle.nego_reader.proofs.PrintedAgain.{printed_again, spelled_printable}
use Rattle.nego_reader.proofs.PrintedContent.{printed_by_content}
use Rattle.nego_reader.proofs.laws.printed_diagrams_are_spelled.Goals as goal

pub returns-clause-spelled : goal.returns-clause-spelled
returns-clause-spelled c = printed_again

pub returns-clause-alike : goal.returns-clause-alike
returns-clause-alike c = printed_by_content

pub returns-clause-printable : goal.returns-clause-printable
returns-clause-printable c = spelled_printable
