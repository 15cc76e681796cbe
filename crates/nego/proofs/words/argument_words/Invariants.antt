use Rattle.std.proofs.Common.{◌≡◌, IfSome, drop, take, ◌-◌, ◌^◌, length}
use Rattle.nego.proofs.words.argument_words.Given as goal

abbrev pub invariant-loop-words : goal.invariant-loop-words
invariant-loop-words g l = IfSome (g.A.Arguments.told l.arguments) (λ all. l.words ≡ take (length l.words) (drop 1 all))

abbrev pub decreases-loop-words : goal.decreases-loop-words
decreases-loop-words g l = 2 ^ 63 - length l.words
