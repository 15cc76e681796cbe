use Rattle.std.proofs.Common.{◌≡◌, ◌≤◌, ◌++◌, length, take}
use Rattle.nego_io.specs.Front.{IsOpen}
use Rattle.nego_io.proofs.front.Front.put.Given as goal

abbrev pub invariant-loop-byte : goal.invariant-loop-byte
invariant-loop-byte l = record {
  within : l.byte-index ≤ length l.next;
  bytes : l.self.bytes ≡ l.initial.self.bytes ++ take l.byte-index l.next;
  unended : IsOpen l.self.bytes l.self.line_start l.self.lines;
}
