use Rattle.std.proofs.Common.{◌∙◌, sym}
use Rattle.nego_data.proofs.PartLaws.{sizes_from_eq}
use Rattle.nego_data.proofs.parts.are_same.Goals as goal

pub returns : goal.returns
returns c h = sizes_from_eq c.args.one.now c.args.two.now (sym c.eq.ensures ∙ h)
