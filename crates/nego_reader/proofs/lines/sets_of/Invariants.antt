use Rattle.std.proofs.Common.{◌≡◌, ◌+◌, drop, length}
use Rattle.nego_base.specs.LineWalk.{each}
use Rattle.nego_reader.specs.Reading.{set_of}
use Rattle.nego_base.specs.LineAnswers.{onto}
use Rattle.nego_reader.proofs.lines.sets_of.Given as goal

abbrev pub invariant-loop-word : goal.invariant-loop-word
invariant-loop-word l = record {
  told : onto l.sets.items (each set_of (drop l.word-index l.words)) ≡ each set_of l.words;
  room : l.word-index + l.sets.room ≡ length l.words;
}
