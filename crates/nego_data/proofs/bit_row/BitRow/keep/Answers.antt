use Rattle.std.proofs.Common.{◌<◌, ◌&&◌, ◌∙◌, ◌%◌, length, ◌==◌, sym, ap, arith}
use Rattle.std.proofs.lemmas.List.{get_or-set_other, length-set}
use Rattle.std.specs.Prelude.{bit_and, slice_index}
use Rattle.std.specs.Int.{bit_at}
use Rattle.nego_data.specs.BitRows.{is_set}
use Rattle.nego_data.proofs.BitRows.{and_joins, joined-word}
use Rattle.nego_data.proofs.bit_row.BitRow.keep.Goals as goal

pub loop-place-preserved : goal.loop-place-preserved
loop-place-preserved c =
    let row = c.loop-place.word-items in
    let i = c.loop-place.place in
    let other = c.args.other.now.words in
    let word = slice_index other i in
    let before = c.loop-place.invariant in
    let here : i < length row = omega (arith, c.loop-place-test.true, before.sixteen) in
    record {
      sixteen = length-set row i (bit_and (slice_index row i) word) ∙ before.sixteen;
      rest = λ k h. get_or-set_other row i k (bit_and (slice_index row i) word) 0 (omega (arith, h)) ∙ before.rest k (omega (arith, h));
      joined = joined-word bit_and ◌&&◌ and_joins c.args.self.now.words row (is_set other) i word here before.rest before.joined (λ e same. ap (λ n. bit_at (slice_index other n) (e % 64) == 1) (sym same));
    }
