use Rattle.std.proofs.Common.{◌<◌, ◌∙◌, ◌==◌, ◌%◌, ◌||◌, length, sym, ap, arith}
use Rattle.std.proofs.lemmas.List.{get_or-set_other}
use Rattle.std.specs.Prelude.{bit_or, slice_index}
use Rattle.std.specs.Int.{bit_at}
use Rattle.nego_data.specs.BitRows.{is_set}
use Rattle.nego_data.proofs.BitRows.{or_joins, joined-word}
use Rattle.nego_data.proofs.bit_row.BitRow.add_to.Goals as goal

pub loop-place-preserved : goal.loop-place-preserved
loop-place-preserved c =
    let row = c.loop-place.row in
    let i = c.loop-place.place in
    let other = c.args.self.now.words in
    let word = slice_index other i in
    let here : i < length row = omega (arith, c.loop-place-test.true, c.loop-place.auto.row) in
    record {
      rest = λ k h. get_or-set_other row i k (bit_or (slice_index row i) word) 0 (omega (arith, h)) ∙ c.loop-place.invariant.rest k (omega (arith, h));
      added = joined-word bit_or ◌||◌ or_joins c.args.row.now row (is_set other) i word here c.loop-place.invariant.rest c.loop-place.invariant.added (λ e same. ap (λ n. bit_at (slice_index other n) (e % 64) == 1) (sym same));
    }
