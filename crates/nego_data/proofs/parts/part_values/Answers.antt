use Rattle.std.proofs.Common.{◌∙◌, arith}
use Rattle.std.proofs.lemmas.List.{length-set}
use Rattle.std.proofs.lemmas.List.Edits.{fill_by_more}
use Rattle.std.specs.Prelude.{if◌then◌else◌, slice_index}
use Rattle.nego_base.specs.Members.{is_in}
use Rattle.nego_data.proofs.PartLaws.{values_filled}
use Rattle.nego_data.proofs.parts.part_values.Goals as goal

pub loop-k-preserved : goal.loop-k-preserved
loop-k-preserved c = record {
  long = length-set c.loop-k.part c.loop-k.k c.part_value.result ∙ c.loop-k.invariant.long;
  filled = rw c.part_value.ensures (fill_by_more (λ j. if is_in j c.args.parties then slice_index c.args.values.now j else 0) c.loop-k.part c.loop-k.k 0
      (omega (arith, c.loop-k.invariant.long)) c.loop-k.invariant.filled);
}

pub returns : goal.returns
returns c = values_filled c.args.parties c.args.values.now c.loop-k.part c.loop-k.invariant.long (λ a h. c.loop-k.invariant.filled a (omega (arith, h, c.loop-k-test.false)))
