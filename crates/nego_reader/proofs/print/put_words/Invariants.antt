use Rattle.std.proofs.Common.{◌≡◌, ◌++◌, drop}
use Rattle.nego_reader.specs.Content.{texts}
use Rattle.nego_reader.specs.PrintedLines.{behind_blanks}
use Rattle.nego_reader.proofs.print.put_words.Given as goal

abbrev pub invariant-loop-word : goal.invariant-loop-word
invariant-loop-word l = l.text ++ behind_blanks (texts (drop l.word-index l.words)) ≡ l.fn.text ++ behind_blanks (texts l.words)
