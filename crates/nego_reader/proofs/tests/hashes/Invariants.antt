use Rattle.std.proofs.Common.{◌≡◌, length}
use Rattle.nego_reader.proofs.tests.hashes.Given as goal

abbrev pub invariant-loop : goal.invariant-loop
invariant-loop l = length l.text ≡ l.counter
