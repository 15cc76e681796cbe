use Rattle.std.proofs.Common.{◌≡◌, ℕ, ◌<◌, true}
use Rattle.nego_base.specs.Members.{is_in}
use Rattle.nego_shape.proofs.placing.least_behind.Given as goal

-- those so far that are predecessors are placed
abbrev pub invariant-loop-m : goal.invariant-loop-m
invariant-loop-m l = (m : ℕ) → m < l.m → is_in m l.behind ≡ true → is_in m l.placed ≡ true
