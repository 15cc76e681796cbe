use Rattle.std.proofs.Common.{◌≡◌, ◌++◌, drop, map}
use Rattle.nego_reader.specs.Printing.{set_text}
use Rattle.nego_reader.specs.PrintedLines.{behind_blanks}
use Rattle.nego_reader.proofs.print.put_sets.Given as goal

abbrev pub invariant-loop-set : goal.invariant-loop-set
invariant-loop-set l = l.text ++ behind_blanks (map set_text (drop l.set-index l.sets)) ≡ l.fn.text ++ behind_blanks (map set_text l.sets)
