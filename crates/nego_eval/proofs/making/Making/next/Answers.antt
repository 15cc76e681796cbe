use Rattle.std.proofs.Common.{subst}
use Rattle.std.specs.Prelude.{IfSome}
use Rattle.std.proofs.lemmas.List.Elements.{All-pop}
use Rattle.nego_eval.specs.Frames.{IsFrame}
use Rattle.nego_eval.specs.Making.{IsAskedOf}
use Rattle.nego_eval.proofs.Asking.{asked_popped}
use Rattle.nego_eval.proofs.making.Making.next.Goals as goal

pub loop-frame-preserved : goal.loop-frame-preserved
loop-frame-preserved c =
    let old = c.loop-frame.self in
    let invariant = c.loop-frame.invariant in
    record {
      rows = invariant.rows;
      making = record { rows = invariant.making.rows; waiting = (All-pop (IsFrame old.rows) old.waiting c.pop.new.self c.pop.result c.pop.ensures.items invariant.making.waiting).0 };
      asked = λ roots before. (asked_popped roots old c.pop.new.self c.pop.result c.pop.ensures.items (invariant.asked roots before)).0;
    }

pub returns-then-not-has-clause-asked : goal.returns-then-not-has-clause-asked
returns-then-not-has-clause-asked c = λ roots before. (asked_popped roots c.loop-frame.self c.pop.new.self c.pop.result c.pop.ensures.items (c.loop-frame.invariant.asked roots before)).0

pub returns-then-not-has-clause-frame : goal.returns-then-not-has-clause-frame
returns-then-not-has-clause-frame c =
    let old = c.loop-frame.self in
    let frame = c.in-Some.frame in
    let last = (All-pop (IsFrame old.rows) old.waiting c.pop.new.self c.pop.result c.pop.ensures.items c.loop-frame.invariant.making.waiting).1 in
    subst (λ rows. IsFrame rows frame) c.loop-frame.invariant.rows (subst (λ r. IfSome r (IsFrame old.rows)) c.in-Some.is last)

pub returns-then-not-has-clause-wanted : goal.returns-then-not-has-clause-wanted
returns-then-not-has-clause-wanted c = λ roots root before.
    let old = c.loop-frame.self in
    let frame = c.in-Some.frame in
    let last = (asked_popped roots old c.pop.new.self c.pop.result c.pop.ensures.items (c.loop-frame.invariant.asked roots before)).1 in
    subst (λ rows. IsAskedOf rows roots frame.pair) c.loop-frame.invariant.rows (subst (λ r. IfSome r (λ f. IsAskedOf old.rows roots f.pair)) c.in-Some.is last)

pub returns-clause-asked : goal.returns-clause-asked
returns-clause-asked c = λ roots before. (asked_popped roots c.loop-frame.self c.pop.new.self c.pop.result c.pop.ensures.items (c.loop-frame.invariant.asked roots before)).0
