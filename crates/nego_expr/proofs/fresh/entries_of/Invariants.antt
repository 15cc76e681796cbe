use Rattle.std.proofs.Common.{map, take}
use Rattle.nego_expr.specs.Counts.{AreEntriesOf}
use Rattle.nego_expr.specs.WorkView.{plain_outcome}
use Rattle.nego_expr.proofs.fresh.entries_of.Given as goal

-- the counts of the outcomes so far
abbrev pub invariant-loop-outcome : goal.invariant-loop-outcome
invariant-loop-outcome l = AreEntriesOf (map plain_outcome (take l.outcome-index l.outcomes)) l.entries
