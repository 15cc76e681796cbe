use Rattle.std.proofs.Common.{◌≡◌, map}
use Rattle.std.specs.List.{range_with_len}
use Rattle.nego_model.specs.Diagram.{parties_of, atom_of}
use Rattle.nego_expr.proofs.fresh.parties_of_outcomes.Given as goal

abbrev pub invariant-loop-o : goal.invariant-loop-o
invariant-loop-o l = l.parties ≡ map (λ o. parties_of l.d (atom_of l.d o)) (range_with_len 0 l.o)
