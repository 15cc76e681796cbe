use Rattle.std.proofs.Common.{ℕ, ◌<◌, ◌≤◌, get_or}
use Rattle.nego_shape.specs.Answers.{numbers}
use Rattle.nego_shape.proofs.cycles.least_place.Given as goal

-- the least of those so far
abbrev pub invariant-loop-i : goal.invariant-loop-i
invariant-loop-i l = record {
  within : l.least < l.i;
  least : (k : ℕ) → k < l.i → get_or (numbers l.atoms) l.least 0 ≤ get_or (numbers l.atoms) k 0;
}
