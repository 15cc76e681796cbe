use Rattle.std.proofs.Common.{map, take}
use Rattle.nego_base.specs.Appending.{Appends}
use Rattle.nego_expr.specs.SummaryText.{plain_final, final_lines}
use Rattle.nego_expr.proofs.summary.add_finals.Given as goal

-- the lines of the final outcomes so far
abbrev pub invariant-loop-outcome : goal.invariant-loop-outcome
invariant-loop-outcome l = Appends l.initial.text l.text (final_lines (map plain_final (take l.outcome-index l.finals)))
