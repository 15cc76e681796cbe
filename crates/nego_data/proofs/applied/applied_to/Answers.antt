use Rattle.std.proofs.Common.{◌∙◌, sym, subst}
use Rattle.nego_data.specs.Assignments.{IsApplied, IsAppliedTo}
use Rattle.nego_data.proofs.Assignments.{same_sets}
use Rattle.nego_data.proofs.applied.applied_to.Goals as goal

pub returns-then-eq : goal.returns-then-eq
returns-then-eq c sizes table all =
    let item = c.one-item.result in
    subst (λ sets. IsAppliedTo sizes table sets item.those.words) (same_sets item.case.now.sets c.args.case.now.sets (sym c.eq.ensures ∙ c.if-eq.true))
    (subst (IsApplied sizes table) (sym c.one-item.is) (all c.loop-one.one-index item c.loop-one-test.true))
