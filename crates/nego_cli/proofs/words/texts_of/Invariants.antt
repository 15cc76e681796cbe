use Rattle.std.proofs.Common.{◌≡◌, take, drop, map}
use Rattle.std.specs.List.{list_all}
use Rattle.nego_cli.specs.Words.{is_word}
use Rattle.nego_cli.proofs.words.texts_of.Given as goal

-- the words so far are texts, and the words have the form where those behind have it
abbrev pub invariant-loop-word : goal.invariant-loop-word
invariant-loop-word l = record {
  texts : map (λ s. s.now) l.texts.items ≡ take l.word-index l.words;
  right : list_all is_word l.words ≡ list_all is_word (drop l.word-index l.words);
}
