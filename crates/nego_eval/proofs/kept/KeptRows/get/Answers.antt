use Rattle.std.proofs.Common.{◌≡◌, ◌<◌, length, None, slice_index_or, sym, ap, ◌∙◌, arith}
use Rattle.std.proofs.lemmas.List.{get_or_default}
use Rattle.nego_eval.specs.Kept.{numbered_row}
use Rattle.nego_eval.proofs.Places.{length-by_place, row_at_place, numbered_some}
use Rattle.nego_eval.proofs.kept.KeptRows.get.Goals as goal

pub index-requires : goal.index-requires
index-requires c = let same = ap length (sym c.self.view_is) ∙ length-by_place c.self.inside.rows c.self.inside.places.items in omega (arith, same, c.self.inside.places.ok.0)

pub returns-then-number-eq0 : goal.returns-then-number-eq0
returns-then-number-eq0 c =
    let rows = c.self.inside.rows in
    let places = c.self.inside.places.items in
    let there : c.args.place < length places = let same = ap length (sym c.self.view_is) ∙ length-by_place rows places in omega (arith, same) in
    let number : slice_index_or places c.args.place 0 ≡ 0 = get_or_default places c.args.place 0 c.index.result.now there ∙ sym c.index.ensures ∙ c.if-number-eq0.true in
    sym (ap (λ kept. slice_index_or kept c.args.place None) (sym c.self.view_is) ∙ row_at_place rows places c.args.place there ∙ ap (numbered_row rows) number)

pub returns : goal.returns
returns c =
    let rows = c.self.inside.rows in
    let places = c.self.inside.places.items in
    let there : c.args.place < length places = let same = ap length (sym c.self.view_is) ∙ length-by_place rows places in omega (arith, same) in
    let number : slice_index_or places c.args.place 0 ≡ c.index.result.now = get_or_default places c.args.place 0 c.index.result.now there ∙ sym c.index.ensures in
    c.get.ensures ∙ sym (numbered_some rows c.index.result.now c.if-number-eq0.false)
    ∙ sym (ap (λ kept. slice_index_or kept c.args.place None) (sym c.self.view_is) ∙ row_at_place rows places c.args.place there ∙ ap (numbered_row rows) number)
