use Rattle.std.proofs.Common.{◌<◌, length, subst, sym, ap, ◌∙◌, arith}
use Rattle.nego_expr.specs.Work.{PlainWork, outcome_at}
use Rattle.nego_expr.proofs.DroppedAtoms.{others, next_alive, none_left, others_same, one_fewer}
use Rattle.nego_expr.proofs.EditCalls.{alive_found}
use Rattle.nego_expr.specs.WorkView.{plain_outcome}
use Rattle.nego_expr.proofs.work.Work.drop_atom.Goals as goal

pub drop_outcome-requires : goal.drop_outcome-requires
drop_outcome-requires c =
    let w = c.loop-x.self.plain in
    let x = plain_outcome c.in-Some.x.now in
    record { alive = alive_found (outcome_at w x.number) x (next_alive c.args.n.0 0 w c.next_of.ensures.alive.rising x (sym c.in-Some.ensures.value)) }

pub loop-x-smaller : goal.loop-x-smaller
loop-x-smaller c =
    let w = c.loop-x.self.plain in
    let fewer = one_fewer c.args.n.0 0 w c.next_of.ensures.alive.rising (plain_outcome c.in-Some.x.now) (sym c.in-Some.ensures.value) in
    subst (λ (v : PlainWork). length v.outcomes < length w.outcomes) (sym c.drop_outcome.ensures.plain) fewer

pub loop-x-preserved : goal.loop-x-preserved
loop-x-preserved c =
    let h = c.loop-x.invariant in
    record {
      others = ap (others c.args.n.0) c.drop_outcome.ensures.plain
          ∙ (others_same c.args.n.0 0 c.loop-x.self.plain c.next_of.ensures.alive.rising (plain_outcome c.in-Some.x.now) (sym c.in-Some.ensures.value) ∙ h.others);
      nodes = omega (arith, h.nodes, c.drop_outcome.ensures.kept.0);
      outcomes = omega (arith, h.outcomes, c.drop_outcome.ensures.kept.1);
    }

pub returns-clause-plain : goal.returns-clause-plain
returns-clause-plain c =
    sym (none_left c.args.n.0 c.loop-x.self.plain (sym c.in_default.ensures.value)) ∙ (c.loop-x.invariant.others ∙ ap (others c.args.n.0) c.leave.ensures.plain)
