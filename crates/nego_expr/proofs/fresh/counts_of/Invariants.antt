use Rattle.std.proofs.Common.{map}
use Rattle.std.specs.List.{range_with_len}
use Rattle.nego_model.specs.Diagram.{atom_of}
use Rattle.nego_expr.specs.Counts.{AreCountsOf}
use Rattle.nego_expr.proofs.fresh.counts_of.Given as goal

-- the counts of the outcomes so far
abbrev pub invariant-loop-o : goal.invariant-loop-o
invariant-loop-o l = AreCountsOf (map (atom_of l.d) (range_with_len 0 l.o)) l.counts
