use Rattle.std.proofs.Common.{◌≡◌, ◌+◌, ◌≤◌, length}
use Rattle.nego_base.specs.Lines.{lines}
use Rattle.nego_base.specs.Scan.{faults_from, scan_fault}
use Rattle.nego_base.proofs.scanning.first_fault.Given as goal

abbrev pub invariant-loop-rest : goal.invariant-loop-rest
invariant-loop-rest l = record {
  same : faults_from l.number (lines l.rest) ≡ scan_fault l.bytes;
  counted : l.number + length l.rest ≤ length l.bytes + 1;
}

abbrev pub decreases-loop-rest : goal.decreases-loop-rest
decreases-loop-rest l = length l.rest
