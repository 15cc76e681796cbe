use Rattle.std.proofs.Common.{Option, Some, None, IsSome, IfNone, refl}
use Rattle.nego_model.specs.Diagram.{negotiation_of}
use Rattle.nego_shape.proofs.Walking.{some_behind}
use Rattle.nego_shape.proofs.cycles.go_back.Goals as goal

some_from : {A : Type 0} (o : Option A) (P : Type 0) → IfNone o P → (P → ⊥) → IsSome o
some_from None P h no_more = absurd (no_more h)
some_from (Some x) P h no_more = refl

pub unwrap-requires : goal.unwrap-requires
unwrap-requires c = some_from c.least_behind.result _ c.least_behind.ensures.none (some_behind (negotiation_of c.args.d.now) c.args.placed c.args.n.0 c.requires.stuck c.requires.left)
