use Rattle.nego_base.proofs.WordLaws.{texts_at, words_stand}
use Rattle.nego_base.proofs.laws.words_of_a_line.Goals as goal

pub returns-clause-words : goal.returns-clause-words
returns-clause-words c = λ number line. texts_at number 1 line

pub returns-clause-places : goal.returns-clause-places
returns-clause-places c = λ number line. words_stand number 1 line
