use Rattle.std.proofs.Common.{List, map, take, sym, subst, arith}
use Rattle.std.proofs.lemmas.List.{length-map, length-take, take_all}
use Rattle.nego_expr.specs.Counts.{AreEntriesOf}
use Rattle.nego_expr.specs.declared.outcome.Outcome.{Outcome}
use Rattle.nego_expr.specs.Work.{WorkOutcome}
use Rattle.nego_expr.specs.WorkView.{plain_outcome}
use Rattle.nego_expr.proofs.Entries.{entries-add, entries_few}
use Rattle.nego_expr.proofs.Seen.{map-take_more}
use Rattle.nego_expr.proofs.fresh.entries_of.Goals as goal

pub add_each-requires : goal.add_each-requires
add_each-requires c m there =
    let so_far = take c.loop-outcome.outcome-index c.args.outcomes.now in
    let few = entries_few (plain_outcome c.outcome-item.result) c.entered.result c.entered.ensures (map plain_outcome so_far) c.loop-outcome.entries c.loop-outcome.invariant m there in
    let seen = length-map so_far plain_outcome in
    let taken = length-take c.loop-outcome.outcome-index c.args.outcomes.now in
    omega (arith, few, seen, taken, c.requires)

pub loop-outcome-preserved : goal.loop-outcome-preserved
loop-outcome-preserved c =
    let outcomes = c.args.outcomes.now in
    let i = c.loop-outcome.outcome-index in
    let outcome = c.outcome-item.result in
    subst (λ (xs : List WorkOutcome). AreEntriesOf xs c.add_each.new.self) (sym (map-take_more plain_outcome outcomes i outcome outcome c.loop-outcome-test.true (sym c.outcome-item.is)))
    (entries-add (plain_outcome outcome) c.entered.result c.entered.ensures (map plain_outcome (take i outcomes)) c.loop-outcome.entries c.loop-outcome.invariant c.add_each.new.self c.add_each.ensures)

pub returns : goal.returns
returns c =
    subst (λ (xs : List Outcome). AreEntriesOf (map plain_outcome xs) c.loop-outcome.entries) (take_all c.loop-outcome.outcome-index c.args.outcomes.now c.loop-outcome-test.false) c.loop-outcome.invariant
