use Rattle.std.proofs.Common.{◌≡◌, ◌+◌, map, length}
use Rattle.std.specs.List.{range_with_len}
use Rattle.nego_expr.specs.Fresh.{fresh_at}
use Rattle.nego_expr.specs.WorkView.{plain_outcome}
use Rattle.nego_expr.proofs.fresh.outcomes_of.Given as goal

-- the outcomes so far, and room for the others
abbrev pub invariant-loop-o : goal.invariant-loop-o
invariant-loop-o l = (map plain_outcome l.outcomes.items ≡ map (fresh_at l.d) (range_with_len 0 l.o)) × (l.outcomes.room + l.o ≡ length l.d.outcomes)
