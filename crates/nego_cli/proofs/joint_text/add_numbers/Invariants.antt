use Rattle.std.proofs.Common.{take}
use Rattle.nego_base.specs.Appending.{Appends}
use Rattle.nego_cli.specs.Refusals.{value_words}
use Rattle.nego_cli.proofs.joint_text.add_numbers.Given as goal

-- the numbers so far
abbrev pub invariant-loop-n : goal.invariant-loop-n
invariant-loop-n l = Appends l.initial.text l.text (value_words (take l.n-index l.numbers))
