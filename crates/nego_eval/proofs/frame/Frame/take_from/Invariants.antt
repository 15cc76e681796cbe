use Rattle.std.proofs.Common.{◌≡◌, ◌-◌, ◌≤◌}
use Rattle.nego_eval.specs.Frames.{IsThrough}
use Rattle.nego_eval.proofs.frame.Frame.take_from.Given as goal

abbrev pub invariant-loop-y : goal.invariant-loop-y
invariant-loop-y l = record { pair : l.self.pair ≡ l.initial.self.pair; through : IsThrough l.rows l.self l.first.0 l.second.0; bound : l.from ≤ 1024 }

abbrev pub decreases-loop-y : goal.decreases-loop-y
decreases-loop-y l = 1024 - l.from
