use Rattle.std.proofs.Common.{ap₂, sym, ◌∙◌}
use Rattle.std.specs.Option.{option_cmp}
use Rattle.std.specs.Ordering.{nat_cmp}
use Rattle.std.specs.Cmp.Lexicographic.{slice_cmp}
use Rattle.nego_expr.proofs.SlotOrder.{targets_kept}
use Rattle.nego_expr.proofs.targets.Targets.compare.Goals as goal

pub returns : goal.returns
returns c =
    c.cmp.ensures
    ∙ (targets_kept c.kept.result.now c.kept-2.result.now ∙ ap₂ (slice_cmp (option_cmp nat_cmp)) (sym c.kept.ensures) (sym c.kept-2.ensures))
