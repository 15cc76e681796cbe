use Rattle.std.proofs.Common.{sym, subst, ap, ◌∙◌}
use Rattle.nego_eval.specs.declared.rows.Rows.{Rows}
use Rattle.nego_eval.specs.Frames.{IsPair}
use Rattle.nego_eval.specs.Making.{IsAskedOf}
use Rattle.nego_eval.proofs.making.Making.make.Goals as goal

pub loop-pair-preserved : goal.loop-pair-preserved
loop-pair-preserved c =
    let invariant = c.loop-pair.invariant in
    let next = c.next-frame in
    let later = c.finish.new.self.rows in
    let keep : Rows → Rows = λ rows. record rows { kept = later.kept } in
    let alike = c.in_ok-finish.ensures.alike ∙ ap keep next.ensures.rows in
    record {
      alike = alike ∙ ap keep invariant.alike;
      making = c.in_ok-finish.ensures.making;
      there = subst (λ rows. IsPair rows c.args.pair) (sym alike) (record { node = invariant.there.node; start = invariant.there.start });
      asked = λ roots root before.
          let asked = invariant.asked roots root before in
          c.in_ok-finish.ensures.asked roots (next.ensures.asked roots asked) (subst (λ rows. IsAskedOf rows roots next.result.pair) (sym next.ensures.rows) (next.ensures.wanted roots root asked));
    }
