use Rattle.nego_reader.proofs.Said.{spelled_else_fault, spelled_sound, first_fault_once}
use Rattle.nego_reader.proofs.laws.texts_have_one_fault_or_none.Goals as goal

pub returns-clause-either : goal.returns-clause-either
returns-clause-either c = spelled_else_fault

pub returns-clause-apart : goal.returns-clause-apart
returns-clause-apart c = spelled_sound

pub returns-clause-once : goal.returns-clause-once
returns-clause-once c = first_fault_once
