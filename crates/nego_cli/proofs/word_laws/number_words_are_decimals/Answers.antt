use Rattle.nego_cli.proofs.NumberWords.{number_words}
use Rattle.nego_cli.proofs.word_laws.number_words_are_decimals.Goals as goal

pub returns : goal.returns
returns c = number_words
