use Rattle.std.proofs.Common.{◌≡◌, ◌+◌, drop, length}
use Rattle.nego_base.specs.LineWalk.{each}
use Rattle.nego_reader.specs.Reading.{test_of}
use Rattle.nego_base.specs.LineAnswers.{onto}
use Rattle.nego_reader.proofs.lines.tests_of.Given as goal

abbrev pub invariant-loop-word : goal.invariant-loop-word
invariant-loop-word l = record {
  told : onto l.tests.items (each test_of (drop l.word-index l.words)) ≡ each test_of l.words;
  room : l.word-index + l.tests.room ≡ length l.words;
}
