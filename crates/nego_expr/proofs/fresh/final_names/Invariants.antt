use Rattle.std.proofs.Common.{◌≡◌, map}
use Rattle.std.specs.List.{range_with_len}
use Rattle.nego_model.specs.Diagram.{outcome_name}
use Rattle.nego_expr.proofs.fresh.final_names.Given as goal

abbrev pub invariant-loop-i : goal.invariant-loop-i
invariant-loop-i l = l.names ≡ map (outcome_name l.d) (range_with_len l.start l.i)
