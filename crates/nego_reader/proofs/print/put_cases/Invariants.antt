use Rattle.std.proofs.Common.{◌≡◌, ◌++◌, drop, map}
use Rattle.nego_reader.specs.Rows.{CaseRow}
use Rattle.nego_reader.specs.PrintedLines.{row_texts}
use Rattle.nego_reader.proofs.print.put_cases.Given as goal

abbrev pub invariant-loop-case : goal.invariant-loop-case
invariant-loop-case l = l.text ++ row_texts (map CaseRow (drop l.case-index l.cases)) ≡ l.fn.text ++ row_texts (map CaseRow l.cases)
