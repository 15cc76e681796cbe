use Rattle.std.proofs.Common.{◌≡◌}
use Rattle.nego_eval.specs.Rows.{lacked}
use Rattle.nego_eval.specs.Frames.{IsThrough}
use Rattle.nego_eval.proofs.frame.Frame.through.Given as goal

-- the row is going on
abbrev pub invariant-loop-y : goal.invariant-loop-y
invariant-loop-y l = record { pair : l.self.pair ≡ l.initial.self.pair; through : IsThrough l.rows l.self l.fn.first.0 l.second.0 }

abbrev pub decreases-loop-y : goal.decreases-loop-y
decreases-loop-y l = lacked l.self.followed
