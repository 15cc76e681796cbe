use Rattle.nego_cert.proofs.SummaryTexts.{one_or_fault}
use Rattle.nego_cert.proofs.laws.texts_spell_a_summary_or_have_a_fault.Goals as goal

pub returns : goal.returns
returns c = one_or_fault
