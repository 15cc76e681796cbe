use Rattle.agent_journal.proofs.ListLaws.{stands-same, stands-more, stands-once}
use Rattle.agent_journal.proofs.laws.lists_of_files.Goals as goal

pub returns-clause-once : goal.returns-clause-once
returns-clause-once c = stands-once

pub returns-clause-same : goal.returns-clause-same
returns-clause-same c = stands-same

pub returns-clause-more : goal.returns-clause-more
returns-clause-more c = stands-more
