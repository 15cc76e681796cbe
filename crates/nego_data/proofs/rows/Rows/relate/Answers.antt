use borrow.Rule.Slice.PartMut.{put_mid}
use Rattle.std.proofs.Common.{◌≡◌, ◌==◌, ◌∙◌, ◌+◌, ◌*◌, ◌-◌, length, drop, length-take, length-drop, sym, subst, ap, arith}
use Rattle.std.specs.Vec.{with_items}
use Rattle.std.proofs.lemmas.List.{with_items_is}
use Rattle.nego_data.specs.Tables.{IsTable, IsPacked, is_related, rows_of_words}
use Rattle.nego_data.proofs.Words.{word_in_row, rows_seen, rows_of_words-table, row_there, length-after, related_after}
use Rattle.nego_data.proofs.rows.Rows.relate.Goals as goal

pub slice_bounds-set_bit-end : goal.slice_bounds-set_bit-end
slice_bounds-set_bit-end c =
    let there = row_there c.self.inside.all c.self.inside.words.items c.args.self.now c.self.invariant c.self.view_is c.args.d c.requires.from c.row_words-words.result c.row_words-words.ensures in
    omega (arith, there, c.deref_mut.ensures.len, c.self.inside.words.ok.0)

pub returns-clause-table : goal.returns-clause-table
returns-clause-table c =
    let all = c.self.inside.all in
    let start = c.args.d * c.row_words-words.result in
    let items = (with_items c.self.inside.words (put_mid start (start + c.row_words-words.result - start) c.deref_mut.result.now c.set_bit.new.row)).items in
    subst (λ n. IsTable n (rows_of_words all items)) (rows_seen all c.self.inside.words.items c.args.self.now c.self.view_is) (rows_of_words-table all items)

pub returns-clause-related : goal.returns-clause-related
returns-clause-related c =
    let all = c.self.inside.all in
    let table = c.args.self.now in
    let words = c.deref_mut.result.now in
    let size = c.row_words-words.result in
    let is = c.row_words-words.ensures in
    let d = c.args.d in
    let start = d * size in
    let row = c.set_bit.new.row in
    let packed = subst (IsPacked all) (sym c.deref_mut.ensures.value) c.self.invariant in
    let seen = ap (rows_of_words all) c.deref_mut.ensures.value ∙ c.self.view_is in
    let there = row_there all words table packed seen d c.requires.from size is in
    let as_long : length row ≡ size = omega (arith, there, c.set_bit.auto.row, length-take (start + size - start) (drop start words), length-drop start words) in
    let kept = with_items_is c.self.inside.words (put_mid start (start + size - start) words row)
    (length-after all words table packed seen d c.requires.from size is row as_long ∙ ap length c.deref_mut.ensures.value ∙ sym c.self.inside.words.ok.0) in
    λ b f h k.
    ap (λ items. is_related (rows_of_words all items) b f) kept
    ∙ related_after all words table packed seen d c.requires.from size is row as_long (λ f. f == c.args.e)
    (λ f below. c.set_bit.ensures f) b f h k

pub set_bit-requires : goal.set_bit-requires
set_bit-requires c =
    let all = c.self.inside.all in
    let words = c.deref_mut.result.now in
    let size = c.row_words-words.result in
    let start = c.args.d * size in
    let there = row_there all c.self.inside.words.items c.args.self.now c.self.invariant c.self.view_is c.args.d c.requires.from size c.row_words-words.ensures in
    let count = rows_seen all c.self.inside.words.items c.args.self.now c.self.view_is in
    let here = word_in_row all c.args.e (omega (arith, count, c.requires.to)) in
    omega (arith, here, there, c.row_words-words.ensures, c.deref_mut.ensures.len, c.self.inside.words.ok.0, length-take (start + size - start) (drop start words), length-drop start words)
