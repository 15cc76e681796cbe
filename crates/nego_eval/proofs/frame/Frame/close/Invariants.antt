use Rattle.std.proofs.Common.{◌≡◌, true}
use Rattle.nego_base.specs.Members.{is_in}
use Rattle.nego_eval.specs.Rows.{lacked}
use Rattle.nego_eval.specs.Frames.{StepsBy}
use Rattle.nego_eval.proofs.frame.Frame.close.Given as goal

-- the row is going on, and has met its start
abbrev pub invariant-loop-y : goal.invariant-loop-y
invariant-loop-y l = record {
  pair : l.self.pair ≡ l.initial.self.pair;
  steps : StepsBy l.rows l.self l.child.0;
  start : is_in l.self.pair.start l.self.met ≡ true;
}

abbrev pub decreases-loop-y : goal.decreases-loop-y
decreases-loop-y l = lacked l.self.followed
