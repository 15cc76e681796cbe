use Rattle.std.specs.Prelude.{List}
use Rattle.std.specs.List.{Contains}
use Rattle.nego_eval.specs.declared.rows.Pair.{Pair}
use Rattle.nego_eval.specs.Kept.{open_places}
use Rattle.nego_eval.specs.Making.{AreMaking, AreAsked}
use Rattle.nego_eval.specs.Frames.{AreAlike, IsPair}
use Rattle.nego_eval.proofs.making.Making.make.Given as goal

-- rows are made
abbrev pub invariant-loop-pair : goal.invariant-loop-pair
invariant-loop-pair l = record {
  alike : AreAlike l.initial.self.rows l.self.rows;
  making : AreMaking l.self;
  there : IsPair l.self.rows l.pair;
  asked : (roots : List Pair) → Contains roots l.pair → AreAsked roots l.initial.self → AreAsked roots l.self;
}

abbrev pub decreases-loop-pair : goal.decreases-loop-pair
decreases-loop-pair l = open_places l.self.rows.kept
