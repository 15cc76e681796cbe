use Rattle.std.proofs.Common.{◌≡◌, ℕ, ◌<◌, true}
use Rattle.nego_base.specs.Members.{is_in}
use Rattle.nego_shape.proofs.placing.least_left.Given as goal

-- those so far are placed
abbrev pub invariant-loop-n : goal.invariant-loop-n
invariant-loop-n l = (n : ℕ) → n < l.n → is_in n l.placed ≡ true
