use Rattle.std.proofs.Common.{◌≡◌, length, map, drop}
use Rattle.nego_base.specs.LineAnswers.{onto}
use Rattle.nego_base.specs.LineGrammar.{missing_end}
use Rattle.world_text.specs.ScheduleReading.{walk, plain_items}
use Rattle.world_text.specs.ScheduleTable.{Behind}
use Rattle.world_text.specs.ScheduleText.{EventRow}
use Rattle.world_text.proofs.reading.events.Given as goal

-- each line so far is that of an event; what they all say is these events, and then what the others say
abbrev pub invariant-loop-line : goal.invariant-loop-line
invariant-loop-line l =
    (length l.events ≡ l.line-index) ×
    (onto (map EventRow (plain_items l.events)) (walk l.d (missing_end l.count) (Behind l.line-index) (drop l.line-index l.lines)) ≡ walk l.d (missing_end l.count) (Behind 0) l.lines)
