use Rattle.std.proofs.Common.{◌≡◌, map}
use Rattle.std.specs.List.{range_with_len}
use Rattle.nego_model.specs.Diagram.{outcome_table}
use Rattle.nego_eval.proofs.rows.lenders.Given as goal

-- the tables so far
abbrev pub invariant-loop-o : goal.invariant-loop-o
invariant-loop-o l = l.tables ≡ map (outcome_table l.diagram) (range_with_len 0 l.o)
