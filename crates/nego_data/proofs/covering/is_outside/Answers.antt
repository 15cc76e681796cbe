use Rattle.std.proofs.Common.{◌∙◌, ap, not}
use Rattle.nego_data.specs.BitRows.{is_set}
use Rattle.nego_data.proofs.PartLaws.{part-fits, part-numbered}
use Rattle.nego_data.proofs.covering.is_outside.Goals as goal

pub part_number-requires : goal.part_number-requires
part_number-requires c = part-fits c.args.parties c.args.sizes.now c.args.part.now c.split.ensures.sizes c.requires.part c.args.d c.split.result c.split.ensures.value c.requires.below

pub returns : goal.returns
returns c =
    ap (λ b. not b) (c.has.ensures
    ∙ ap (is_set c.args.set.now.words) (part-numbered c.args.parties c.args.sizes.now c.args.part.now c.split.ensures.sizes c.requires.part c.args.d c.split.result c.split.ensures.value c.part_number.result c.part_number.ensures.value))
