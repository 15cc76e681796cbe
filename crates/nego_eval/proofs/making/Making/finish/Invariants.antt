use Rattle.std.proofs.Common.{◌≡◌, List, None}
use Rattle.nego_eval.specs.declared.rows.Pair.{Pair}
use Rattle.nego_eval.specs.Making.{AreMaking, AreAsked, IsAskedOf}
use Rattle.nego_eval.specs.Frames.{IsFrame, kept_row, rank}
use Rattle.nego_eval.proofs.making.Making.finish.Given as goal

-- the row at hand isn't kept yet
abbrev pub invariant-loop-wanted : goal.invariant-loop-wanted
invariant-loop-wanted l = record {
  rows : l.self.rows ≡ l.initial.self.rows;
  making : AreMaking l.self;
  frame : IsFrame l.self.rows l.frame;
  vacant : kept_row l.self.rows l.frame.pair ≡ None;
  asked : (roots : List Pair) → AreAsked roots l.initial.self → IsAskedOf l.initial.self.rows roots l.initial.frame.pair → AreAsked roots l.self × IsAskedOf l.self.rows roots l.frame.pair;
}

abbrev pub decreases-loop-wanted : goal.decreases-loop-wanted
decreases-loop-wanted l = rank l.frame.pair
