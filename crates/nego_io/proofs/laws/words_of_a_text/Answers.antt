use Rattle.std.proofs.Common.{◌∷◌, [], refl, sym, ◌∙◌, ap}
use Rattle.std.proofs.lemmas.List.{append-nil}
use Rattle.nego_base.specs.Lines.{words}
use Rattle.nego_base.proofs.LineLaws.{words_append, words_word}
use Rattle.nego_io.proofs.EndLaws.{no_words}
use Rattle.nego_io.proofs.laws.words_of_a_text.Goals as goal

pub returns-clause-parted : goal.returns-clause-parted
returns-clause-parted c = words_append

pub returns-clause-blank : goal.returns-clause-blank
returns-clause-blank c = no_words

pub returns-clause-word : goal.returns-clause-word
returns-clause-word c = λ b bs free. ap words (sym (append-nil (b ∷ bs))) ∙ words_word b bs [] free refl
