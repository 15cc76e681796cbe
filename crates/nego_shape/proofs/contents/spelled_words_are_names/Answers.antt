use Rattle.nego_shape.proofs.SpelledNames.{spelled-names}
use Rattle.nego_shape.proofs.contents.spelled_words_are_names.Goals as goal

pub returns : goal.returns
returns c = spelled-names
