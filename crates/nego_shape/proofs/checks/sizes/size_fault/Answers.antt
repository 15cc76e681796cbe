use Rattle.std.proofs.Common.{sym, subst, ◌∙◌}
use Rattle.nego_data.specs.Sizes.{AreSizes}
use Rattle.nego_shape.proofs.SizesListed.{no_fault}
use Rattle.nego_shape.proofs.PartsMade.{sizes_read}
use Rattle.nego_shape.proofs.checks.sizes.size_fault.Goals as goal

pub returns-in-Ok : goal.returns-in-Ok
returns-in-Ok c =
    sym (no_fault c.args.p.now (subst AreSizes (c.in-Ok.ensures.ok ∙ (c.as_slice.ensures ∙ (c.in_ok-sizes.ensures ∙ sizes_read c.args.p.now.agents))) c.in-Ok.ensures.sizes))
