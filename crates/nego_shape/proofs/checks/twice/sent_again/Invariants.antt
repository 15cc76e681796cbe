use Rattle.std.proofs.Common.{◌≡◌, ◌||◌, drop, take, slice_get}
use Rattle.nego_base.specs.declared.line.Word.{Word}
use Rattle.nego_shape.specs.Faults.{numbered, word_if, stands_in, is_led, sent_again}
use Rattle.nego_shape.proofs.checks.twice.sent_again.Given as goal

abbrev pub invariant-loop-i : goal.invariant-loop-i
invariant-loop-i l = slice_get (numbered (λ i (agent : Word). word_if (stands_in (take i l.agents) agent || is_led l.earlier l.next.atom agent) agent) l.i (drop l.i l.agents)) 0 ≡ slice_get (sent_again l.earlier l.next) 0
