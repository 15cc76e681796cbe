use Rattle.std.proofs.Common.{◌≡◌, ◌==◌, ◌+◌, ◌-◌, ◌≤◌, ◌++◌, length}
use Rattle.nego_base.specs.Lines.{is_word_end}
use Rattle.nego_base.specs.Scan.{words_at}
use Rattle.nego_base.proofs.scanning.words_of.Given as goal

abbrev pub invariant-loop-rest : goal.invariant-loop-rest
invariant-loop-rest l = record {
  same : l.words ++ words_at l.number (1 + (length l.line - length l.rest)) l.rest ≡ words_at l.number 1 l.line;
  begins : is_word_end l.rest ≡ (length l.rest == 0);
  within : length l.rest ≤ length l.line;
}

abbrev pub decreases-loop-rest : goal.decreases-loop-rest
decreases-loop-rest l = length l.rest
