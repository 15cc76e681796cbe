use Rattle.std.proofs.Common.{◌≡◌, ◌+◌, ◌≤◌, ◌++◌, length}
use Rattle.nego_base.specs.Lines.{lines}
use Rattle.nego_base.specs.Scan.{scanned_from, scanned, count_lines}
use Rattle.nego_base.proofs.scanning.all_lines.Given as goal

abbrev pub invariant-loop-rest : goal.invariant-loop-rest
invariant-loop-rest l = record {
  same : l.lines ++ scanned_from (l.count + 1) (lines l.rest) ≡ scanned l.bytes;
  all : l.count + length (lines l.rest) ≡ count_lines l.bytes;
  counted : l.count + length l.rest ≤ length l.bytes;
}

abbrev pub decreases-loop-rest : goal.decreases-loop-rest
decreases-loop-rest l = length l.rest
