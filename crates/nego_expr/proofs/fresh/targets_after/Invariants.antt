use Rattle.std.proofs.Common.{◌≡◌, length, slice_get}
use Rattle.nego_model.specs.Diagram.{nexts_of}
use Rattle.nego_expr.proofs.FreshSteps.{sent_so_far}
use Rattle.nego_expr.proofs.fresh.targets_after.Given as goal

abbrev pub invariant-loop-a : goal.invariant-loop-a
invariant-loop-a l = l.targets ≡ sent_so_far (λ a. slice_get (nexts_of l.d l.o.0 a) 0) (length l.d.agents) l.a
