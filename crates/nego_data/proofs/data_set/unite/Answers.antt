use Rattle.std.proofs.Common.{◌<◌, ◌==◌, ◌%◌, length, slice_index, sym, ap, ◌∙◌, arith}
use Rattle.std.specs.Prelude.{bit_or, ◌||◌}
use Rattle.std.specs.Int.{bit_at}
use Rattle.std.proofs.lemmas.List.{length-set, get_or-set_other}
use Rattle.nego_data.specs.BitRows.{is_set}
use Rattle.nego_data.proofs.BitRows.{or_joins, joined-word}
use Rattle.nego_data.proofs.data_set.unite.Goals as goal

pub loop-k-preserved : goal.loop-k-preserved
loop-k-preserved c =
    let words = c.loop-k.all in
    let others = c.args.others.now in
    let k = c.loop-k.k in
    let sixteen = c.loop-k.invariant.sixteen in
    let here : k < length words = omega (arith, sixteen, c.loop-k-test.true) in
    record {
      sixteen = length-set words k _ ∙ sixteen;
      rest = λ j h. get_or-set_other words k j (bit_or (slice_index words k) (slice_index others k)) 0 (omega (arith, h)) ∙ c.loop-k.invariant.rest j (omega (arith, h));
      done = joined-word bit_or ◌||◌ or_joins c.args.words.now words (is_set others) k (slice_index others k) here c.loop-k.invariant.rest c.loop-k.invariant.done (λ e same. ap (λ n. bit_at (slice_index others n) (e % 64) == 1) (sym same));
    }
