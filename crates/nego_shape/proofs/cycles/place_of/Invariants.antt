use Rattle.std.proofs.Common.{◌≡◌, ℕ, ◌<◌, get_or}
use Rattle.nego_shape.specs.Answers.{numbers}
use Rattle.nego_shape.proofs.cycles.place_of.Given as goal

-- it isn't one of those so far
abbrev pub invariant-loop-i : goal.invariant-loop-i
invariant-loop-i l = (k : ℕ) → k < l.i → get_or (numbers l.atoms) k 0 ≡ l.n.0 → ⊥
