use Rattle.nego_reader.proofs.RisingWords.{rising}
use Rattle.nego_reader.proofs.laws.spelled_words_rise.Goals as goal

pub returns : goal.returns
returns c bytes p h = rising bytes p h
