use Rattle.std.proofs.Common.{◌≡◌, List, length}
use Rattle.nego_eval.specs.declared.rows.Pair.{Pair}
use Rattle.nego_eval.specs.Making.{AreMaking, AreAsked}
use Rattle.nego_eval.proofs.making.Making.next.Given as goal

-- what waits is in the making
abbrev pub invariant-loop-frame : goal.invariant-loop-frame
invariant-loop-frame l = record {
  rows : l.self.rows ≡ l.initial.self.rows;
  making : AreMaking l.self;
  asked : (roots : List Pair) → AreAsked roots l.initial.self → AreAsked roots l.self;
}

abbrev pub decreases-loop-frame : goal.decreases-loop-frame
decreases-loop-frame l = length l.self.waiting
