use Rattle.std.proofs.Common.{ℕ, ◌<◌}
use Rattle.nego_model.specs.Diagram.{negotiation_of}
use Rattle.nego_shape.specs.Ordering.{IsReady}
use Rattle.nego_shape.proofs.placing.next_ready.Given as goal

-- none so far can be placed
abbrev pub invariant-loop-n : goal.invariant-loop-n
invariant-loop-n l = (n : ℕ) → n < l.n → IsReady (negotiation_of l.d) l.placed n → ⊥
