use Rattle.std.proofs.Common.{◌≡◌, ◌++◌, drop, map}
use Rattle.std.specs.List.{flat_map}
use Rattle.agent_msg.specs.Records.{entry}
use Rattle.world_text.specs.ReportText.{record_line}
use Rattle.world_text.proofs.reporting.put_records.Given as goal

abbrev pub invariant-loop-r : goal.invariant-loop-r
invariant-loop-r l = l.text ++ flat_map (record_line l.d) (map entry (drop l.r-index l.records)) ≡ l.fn.text ++ flat_map (record_line l.d) (map entry l.records)
