use Rattle.std.proofs.Common.{◌∙◌, ap}
use Rattle.nego_base.specs.Members.{is_in}
use Rattle.nego_model.proofs.occurrence.MarkingArrays.{own-range}
use Rattle.nego_model.proofs.marking.is_own.Goals as goal

pub returns-clause-own : goal.returns-clause-own
returns-clause-own c =
    c.contains.ensures.value ∙ (own-range c.args.o.0 c.outcomes_of-start.result.0 c.outcomes_of-start.result.1 ∙ ap (is_in c.args.o.0) c.outcomes_of-start.ensures.value)
