use Rattle.std.proofs.Common.{◌≡◌, ◌++◌, drop, map}
use Rattle.std.specs.Option.{option_map}
use Rattle.nego_cli.specs.Words.{start_words}
use Rattle.nego_cli.proofs.words.start_words.Given as goal

-- the numbers so far stand before those behind
abbrev pub invariant-loop-word : goal.invariant-loop-word
invariant-loop-word l = start_words (map (λ s. s.now) l.words) ≡ option_map (λ rest. l.starts ++ rest) (start_words (map (λ s. s.now) (drop l.word-index l.words)))
