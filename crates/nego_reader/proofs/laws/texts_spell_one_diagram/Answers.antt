use Rattle.nego_reader.proofs.Said.{spelled_once}
use Rattle.nego_reader.proofs.laws.texts_spell_one_diagram.Goals as goal

pub returns : goal.returns
returns c = spelled_once
