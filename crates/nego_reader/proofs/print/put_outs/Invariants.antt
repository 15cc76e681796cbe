use Rattle.std.proofs.Common.{◌≡◌, ◌++◌, drop}
use Rattle.std.specs.List.{flat_map}
use Rattle.nego_reader.specs.Rows.{out_rows}
use Rattle.nego_reader.specs.PrintedLines.{row_texts}
use Rattle.nego_reader.proofs.print.put_outs.Given as goal

abbrev pub invariant-loop-out : goal.invariant-loop-out
invariant-loop-out l = l.text ++ row_texts (flat_map out_rows (drop l.out-index l.outs)) ≡ l.fn.text ++ row_texts (flat_map out_rows l.outs)
