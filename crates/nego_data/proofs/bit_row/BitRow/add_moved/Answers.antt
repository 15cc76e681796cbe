use Rattle.std.proofs.Common.{◌<◌, ◌∙◌, ◌||◌, length, sym, ap, arith}
use Rattle.std.proofs.lemmas.List.{get_or-set_other}
use Rattle.std.specs.Prelude.{bit_or, slice_index}
use Rattle.nego_data.specs.BitRows.{is_set, is_moved}
use Rattle.nego_data.proofs.BitRows.{or_joins, joined-word, moved_by_nothing}
use Rattle.nego_data.proofs.bit_row.BitRow.add_moved.Goals as goal

pub loop-place-preserved : goal.loop-place-preserved
loop-place-preserved c =
    let row = c.loop-place.row in
    let i = c.loop-place.place in
    let word = c.moved_word.result in
    let here : i < length row = omega (arith, c.loop-place-test.true, c.loop-place.auto.row) in
    record {
      rest = λ k h. get_or-set_other row i k (bit_or (slice_index row i) word) 0 (omega (arith, h)) ∙ c.loop-place.invariant.rest k (omega (arith, h));
      added = joined-word bit_or ◌||◌ or_joins c.args.row.now row (is_moved c.args.self.now.words c.args.by) i word here c.loop-place.invariant.rest c.loop-place.invariant.added c.moved_word.ensures;
    }

pub returns-then-by-eq0 : goal.returns-then-by-eq0
returns-then-by-eq0 c e h =
    let words = c.args.self.now.words in
    c.add_to.ensures e h ∙ ap (λ b. is_set c.args.row.now e || b) (sym (moved_by_nothing words e) ∙ ap (λ n. is_moved words n e) (sym c.if-by-eq0.true))
