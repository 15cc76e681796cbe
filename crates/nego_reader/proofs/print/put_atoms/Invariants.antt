use Rattle.std.proofs.Common.{◌≡◌, ◌++◌, drop}
use Rattle.std.specs.List.{flat_map}
use Rattle.nego_reader.specs.Rows.{atom_rows}
use Rattle.nego_reader.specs.PrintedLines.{row_texts}
use Rattle.nego_reader.proofs.print.put_atoms.Given as goal

abbrev pub invariant-loop-atom : goal.invariant-loop-atom
invariant-loop-atom l = l.text ++ row_texts (flat_map atom_rows (drop l.atom-index l.atoms)) ≡ l.fn.text ++ row_texts (flat_map atom_rows l.atoms)
