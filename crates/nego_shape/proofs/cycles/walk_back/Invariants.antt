use Rattle.std.proofs.Common.{◌≡◌, ℕ, ◌-◌, ◌<◌, length}
use Rattle.nego_base.specs.Members.{is_in}
use Rattle.nego_model.specs.Diagram.{negotiation_of}
use Rattle.nego_shape.specs.Answers.{numbers}
use Rattle.nego_shape.specs.Walks.{IsWalk}
use Rattle.nego_shape.proofs.cycles.walk_back.Given as goal

abbrev pub invariant-loop-placed : goal.invariant-loop-placed
invariant-loop-placed l = record {
  walk : IsWalk (negotiation_of l.d) l.placed (numbers l.atoms) l.here.0;
  same : (n : ℕ) → is_in n l.seen ≡ is_in n (numbers l.atoms);
  bound : l.here.0 < 64;
}

abbrev pub decreases-loop-placed : goal.decreases-loop-placed
decreases-loop-placed l = 64 - length l.seen
