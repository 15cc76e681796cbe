use Rattle.std.proofs.Common.{◌∙◌}
use Rattle.nego_reader.specs.Content.{content_of}
use Rattle.nego_shape.proofs.FirstOuts.{first_next, first_case}
use Rattle.nego_shape.proofs.checks.outcomes.broken_at.Goals as goal

pub returns-in-NoStranger : goal.returns-in-NoStranger
returns-in-NoStranger c = c.on_nexts.ensures ∙ first_next c.args.rule (content_of c.args.p.now) c.args.n c.args.o c.args.out.now c.in-NoStranger.is

pub returns-in-PartiesAlone : goal.returns-in-PartiesAlone
returns-in-PartiesAlone c = c.on_cases.ensures ∙ first_case c.args.rule (content_of c.args.p.now) c.args.n c.args.o c.args.out.now c.in-PartiesAlone.is
