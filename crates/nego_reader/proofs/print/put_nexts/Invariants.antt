use Rattle.std.proofs.Common.{◌≡◌, ◌++◌, drop, map}
use Rattle.nego_reader.specs.Rows.{NextRow}
use Rattle.nego_reader.specs.PrintedLines.{row_texts}
use Rattle.nego_reader.proofs.print.put_nexts.Given as goal

abbrev pub invariant-loop-next : goal.invariant-loop-next
invariant-loop-next l = l.text ++ row_texts (map NextRow (drop l.next-index l.nexts)) ≡ l.fn.text ++ row_texts (map NextRow l.nexts)
