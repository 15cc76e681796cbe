use Rattle.std.proofs.Common.{◌≡◌, ◌++◌, drop}
use Rattle.std.specs.List.{flat_map}
use Rattle.world_text.specs.ReportText.{entry_line}
use Rattle.world_text.proofs.reporting.put_history.Given as goal

abbrev pub invariant-loop-i : goal.invariant-loop-i
invariant-loop-i l = l.text ++ flat_map (entry_line l.d) (drop l.i l.w.history) ≡ l.fn.text ++ flat_map (entry_line l.d) l.w.history
