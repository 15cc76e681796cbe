use Rattle.std.proofs.Common.{◌≡◌, map}
use Rattle.std.specs.List.{range_with_len}
use Rattle.nego_model.specs.Diagram.{parties_of}
use Rattle.nego_expr.proofs.fresh.parties_of_atoms.Given as goal

abbrev pub invariant-loop-n : goal.invariant-loop-n
invariant-loop-n l = l.parties ≡ map (parties_of l.d) (range_with_len 0 l.n)
