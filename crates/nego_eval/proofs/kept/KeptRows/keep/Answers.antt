use Rattle.std.proofs.Common.{◌≡◌, ◌+◌, ◌<◌, [], ◌∷◌, length, None, Some, set, slice_index_or, sym, ap, ap₂, ◌∙◌, arith}
use Rattle.std.proofs.lemmas.List.{length-append}
use Rattle.nego_eval.specs.Kept.{rows_by_place}
use Rattle.nego_eval.proofs.Places.{length-by_place, vacant_number, room_for_number, still_numbered, kept_by_place}
use Rattle.nego_eval.proofs.kept.KeptRows.keep.Goals as goal

pub overflow_cast-len : goal.overflow_cast-len
overflow_cast-len c =
    let rows = c.self.inside.rows in
    let places = c.self.inside.places.items in
    let there : c.args.place < length places = let same = ap length (sym c.self.view_is) ∙ length-by_place rows places in omega (arith, same) in
    let number = vacant_number rows places c.args.place c.self.invariant there (ap (λ kept. slice_index_or kept c.args.place None) c.self.view_is ∙ c.requires.vacant) in
    let room = room_for_number rows places c.args.place c.self.invariant there number in
    let counted : c.len.result ≡ length rows + 1 = c.len.ensures ∙ ap length c.in_ok-push.ensures.ok ∙ length-append rows (c.args.row ∷ []) in
    omega (arith, room, c.self.invariant.few, counted)

pub index_mut-requires : goal.index_mut-requires
index_mut-requires c = let same = ap length (sym c.self.view_is) ∙ length-by_place c.self.inside.rows c.self.inside.places.items in omega (arith, same, c.self.inside.places.ok.0)

pub invariant_of-self-2 : goal.invariant_of-self-2
invariant_of-self-2 c =
    let rows = c.self.inside.rows in
    let places = c.self.inside.places.items in
    let there : c.args.place < length places = let same = ap length (sym c.self.view_is) ∙ length-by_place rows places in omega (arith, same) in
    let number = vacant_number rows places c.args.place c.self.invariant there (ap (λ kept. slice_index_or kept c.args.place None) c.self.view_is ∙ c.requires.vacant) in
    let counted : c.len.result ≡ length rows + 1 = c.len.ensures ∙ ap length c.in_ok-push.ensures.ok ∙ length-append rows (c.args.row ∷ []) in
    rw (c.in_ok-push.ensures.ok, counted)
    (still_numbered rows places c.args.place c.args.row c.self.invariant there number)

pub returns : goal.returns
returns c =
    let rows = c.self.inside.rows in
    let places = c.self.inside.places.items in
    let counted : c.len.result ≡ length rows + 1 = c.len.ensures ∙ ap length c.in_ok-push.ensures.ok ∙ length-append rows (c.args.row ∷ []) in
    ap₂ rows_by_place c.in_ok-push.ensures.ok (ap (set places c.args.place) counted)
    ∙ kept_by_place rows places c.args.place c.args.row c.self.invariant.known ∙ ap (λ kept. set kept c.args.place (Some c.args.row)) c.self.view_is
