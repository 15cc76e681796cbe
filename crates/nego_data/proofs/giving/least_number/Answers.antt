use Rattle.std.proofs.Common.{◌∙◌, sym, subst, arith}
use Rattle.nego_base.proofs.ScanLaws.{no_item}
use Rattle.nego_data.specs.Sizes.{AreBelow}
use Rattle.nego_data.proofs.Tuples.{tuple_of-below}
use Rattle.nego_data.proofs.Additions.{number_unassigned, number_assigned}
use Rattle.nego_data.proofs.giving.least_number.Goals as goal

pub returns-then-is_empty-clause-value : goal.returns-then-is_empty-clause-value
returns-then-is_empty-clause-value c =
    number_unassigned c.args.sizes.now c.args.case.now c.args.d c.requires.below (no_item c.args.case.now.sets (sym c.is_empty.ensures ∙ c.if-is_empty.true))

pub least_values-requires-clause-values : goal.least_values-requires-clause-values
least_values-requires-clause-values c = subst (AreBelow c.args.sizes.now) (sym c.requires.values) (tuple_of-below c.args.sizes.now c.args.d c.requires.below)

pub returns-clause-value : goal.returns-clause-value
returns-clause-value c =
    c.joint.ensures.value
    ∙ number_assigned c.args.sizes.now c.args.case.now c.args.d c.requires.below c.args.old.now c.least_values.result
    (omega (arith, c.least_values.ensures.sixteen, c.joint.ensures.sizes.few_agents)) c.requires.values c.least_values.ensures.least
