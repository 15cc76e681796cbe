use Rattle.std.proofs.Common.{List, map, take, sym, subst, arith}
use Rattle.std.proofs.lemmas.List.{take_all}
use Rattle.nego_expr.specs.declared.outcome.Outcome.{Outcome}
use Rattle.nego_expr.specs.Sorted.{AreMembersOf}
use Rattle.nego_expr.specs.Work.{WorkOutcome}
use Rattle.nego_expr.specs.WorkView.{plain_outcome}
use Rattle.nego_expr.proofs.Seen.{map-take_more}
use Rattle.nego_expr.proofs.MembersOf.{members-add}
use Rattle.nego_expr.proofs.fresh.members_of.Goals as goal

pub loop-outcome-preserved : goal.loop-outcome-preserved
loop-outcome-preserved c =
    let outcomes = c.args.outcomes.now in
    let i = c.loop-outcome.outcome-index in
    let outcome = c.outcome-item.result in (
      subst (λ (xs : List WorkOutcome). AreMembersOf xs c.insert.new.self.items) (sym (map-take_more plain_outcome outcomes i outcome outcome c.loop-outcome-test.true (sym c.outcome-item.is)))
          (members-add (map plain_outcome (take i outcomes)) (plain_outcome outcome) (plain_outcome c.without_targets.result) c.loop-outcome.members.items c.insert.new.self.items c.loop-outcome.invariant.0 c.without_targets.ensures c.insert.ensures.items),
      omega (arith, c.loop-outcome.invariant.1, c.insert.ensures.kept),
    )

pub returns : goal.returns
returns c =
    subst (λ (xs : List Outcome). AreMembersOf (map plain_outcome xs) c.loop-outcome.members.items) (take_all c.loop-outcome.outcome-index c.args.outcomes.now c.loop-outcome-test.false) c.loop-outcome.invariant.0
