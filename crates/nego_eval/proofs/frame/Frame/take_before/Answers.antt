use Rattle.std.proofs.Common.{sym, subst, ◌∙◌, arith}
use Rattle.nego_eval.specs.declared.rows.Pair.{Pair}
use Rattle.nego_eval.specs.Frames.{meaning}
use Rattle.nego_eval.proofs.frame.Frame.take_before.Goals as goal

pub take-requires-clause-between : goal.take-requires-clause-between
take-requires-clause-between c =
    let P : Pair → Type 0 = λ p. meaning c.args.rows.now c.args.first.0 p.start c.in-Some.y in
    subst P (sym c.loop-y.invariant.pair) ((c.requires.middle.exact c.in-Some.y).0 c.in-Some.ensures.within)

pub take-requires-clause-start : goal.take-requires-clause-start
take-requires-clause-start c = c.requires.middle.below c.in-Some.y c.in-Some.ensures.within

pub loop-y-preserved : goal.loop-y-preserved
loop-y-preserved c = record {
  pair = c.take.ensures.pair ∙ c.loop-y.invariant.pair;
  through = c.take.ensures.through;
  bound = let below = c.in-Some.ensures.below in let bound = c.loop-y.invariant.bound in omega (arith, below, bound);
}
