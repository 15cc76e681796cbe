use Rattle.std.proofs.Common.{◌≡◌, ◌+◌, drop, length}
use Rattle.nego_base.specs.LineWalk.{each}
use Rattle.nego_reader.specs.Reading.{name_of}
use Rattle.nego_base.specs.LineAnswers.{onto}
use Rattle.nego_reader.proofs.lines.names_of.Given as goal

abbrev pub invariant-loop-word : goal.invariant-loop-word
invariant-loop-word l = record {
  told : onto l.names.items (each name_of (drop l.word-index l.words)) ≡ each name_of l.words;
  room : l.word-index + l.names.room ≡ length l.words;
}
