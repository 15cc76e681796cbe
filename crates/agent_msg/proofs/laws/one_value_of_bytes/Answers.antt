use Rattle.agent_msg.proofs.SpellingLaws.{message-once, record-once}
use Rattle.agent_msg.proofs.laws.one_value_of_bytes.Goals as goal

pub returns-clause-message : goal.returns-clause-message
returns-clause-message c = message-once

pub returns-clause-record : goal.returns-clause-record
returns-clause-record c = record-once
