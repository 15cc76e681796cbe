use borrow.Rule.Slice.PartMut.{put_mid}
use Rattle.std.proofs.Common.{◌≡◌, ◌∙◌, ◌+◌, ◌*◌, ◌-◌, length, drop, length-take, length-drop, sym, subst, ap, arith}
use Rattle.std.specs.Vec.{with_items}
use Rattle.std.proofs.lemmas.List.{with_items_is}
use Rattle.nego_data.specs.BitRows.{is_moved}
use Rattle.nego_data.specs.Tables.{IsTable, IsPacked, is_related, rows_of_words}
use Rattle.nego_data.proofs.Words.{rows_seen, rows_of_words-table, row_there, length-after, related_after}
use Rattle.nego_data.proofs.rows.Rows.relate_all.Goals as goal

pub slice_bounds-add_moved-end : goal.slice_bounds-add_moved-end
slice_bounds-add_moved-end c =
    let there = row_there c.self.inside.all c.self.inside.words.items c.args.self.now c.self.invariant c.self.view_is c.args.d c.requires c.row_words-words.result c.row_words-words.ensures in
    omega (arith, there, c.deref_mut.ensures.len, c.self.inside.words.ok.0)

pub returns-clause-table : goal.returns-clause-table
returns-clause-table c =
    let all = c.self.inside.all in
    let start = c.args.d * c.row_words-words.result in
    let items = (with_items c.self.inside.words (put_mid start (start + c.row_words-words.result - start) c.deref_mut.result.now c.add_moved.new.row)).items in
    subst (λ n. IsTable n (rows_of_words all items)) (rows_seen all c.self.inside.words.items c.args.self.now c.self.view_is) (rows_of_words-table all items)

pub returns-clause-related : goal.returns-clause-related
returns-clause-related c =
    let all = c.self.inside.all in
    let table = c.args.self.now in
    let words = c.deref_mut.result.now in
    let size = c.row_words-words.result in
    let is = c.row_words-words.ensures in
    let d = c.args.d in
    let start = d * size in
    let row = c.add_moved.new.row in
    let packed = subst (IsPacked all) (sym c.deref_mut.ensures.value) c.self.invariant in
    let seen = ap (rows_of_words all) c.deref_mut.ensures.value ∙ c.self.view_is in
    let there = row_there all words table packed seen d c.requires size is in
    let as_long : length row ≡ size = omega (arith, there, c.add_moved.auto.row, length-take (start + size - start) (drop start words), length-drop start words) in
    let kept = with_items_is c.self.inside.words (put_mid start (start + size - start) words row)
    (length-after all words table packed seen d c.requires size is row as_long ∙ ap length c.deref_mut.ensures.value ∙ sym c.self.inside.words.ok.0) in
    λ b e h k.
    ap (λ items. is_related (rows_of_words all items) b e) kept
    ∙ related_after all words table packed seen d c.requires size is row as_long (is_moved c.args.offsets.now.words c.args.least)
    (λ f below. c.add_moved.ensures f (omega (arith, below, there, length-take (start + size - start) (drop start words), length-drop start words))) b e h k
