use Rattle.std.proofs.Common.{◌∙◌, zero, ap, map}
use Rattle.std.proofs.lemmas.List.{take-replicate}
use Rattle.nego_base.proofs.ListLaws.{map-replicate}
use Rattle.nego_expr.specs.Targets.{target_of}
use Rattle.nego_expr.proofs.targets.Targets.none.Goals as goal

pub returns : goal.returns
returns c = ap (map target_of) (take-replicate c.args.agents 16 zero c.requires) ∙ map-replicate target_of c.args.agents zero
