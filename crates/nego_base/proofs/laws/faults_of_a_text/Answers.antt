use Rattle.nego_base.proofs.SoundLaws.{first_fault_is, sound_texts}
use Rattle.nego_base.proofs.laws.faults_of_a_text.Goals as goal

pub returns-clause-first : goal.returns-clause-first
returns-clause-first c = first_fault_is

pub returns-clause-none : goal.returns-clause-none
returns-clause-none c = sound_texts
