use Rattle.std.proofs.Common.{◌≡◌, ◌++◌, drop}
use Rattle.world_text.specs.ReportText.{number_words}
use Rattle.world_text.proofs.reporting.put_numbers.Given as goal

abbrev pub invariant-loop-n : goal.invariant-loop-n
invariant-loop-n l = l.text ++ number_words (drop l.n-index l.numbers) ≡ l.fn.text ++ number_words l.numbers
