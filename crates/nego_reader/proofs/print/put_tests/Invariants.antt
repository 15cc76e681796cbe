use Rattle.std.proofs.Common.{◌≡◌, ◌++◌, drop, map}
use Rattle.nego_reader.specs.Printing.{test_text}
use Rattle.nego_reader.specs.PrintedLines.{behind_blanks}
use Rattle.nego_reader.proofs.print.put_tests.Given as goal

abbrev pub invariant-loop-test : goal.invariant-loop-test
invariant-loop-test l = l.text ++ behind_blanks (map test_text (drop l.test-index l.tests)) ≡ l.fn.text ++ behind_blanks (map test_text l.tests)
