use Rattle.std.proofs.Common.{◌≡◌, ◌⊎◌, ℕ, ◌<◌, ◌+◌, ◌*◌, length, set, slice_index_or, Some, None, inl, inr, sym, subst, ap, ap₂, ◌∙◌}
use Rattle.std.specs.Prelude.{IsSome}
use Rattle.std.proofs.lemmas.Bool.{cases_eq}
use Rattle.std.proofs.lemmas.List.{length-set, get_or-set_other}
use Rattle.nego_base.proofs.OptionLaws.{then_ok}
use Rattle.nego_eval.specs.Kept.{open_places}
use Rattle.nego_eval.specs.declared.rows.Pair.{Pair}
use Rattle.nego_eval.specs.Frames.{AreRows, IsPair, meaning, kept_row}
use Rattle.nego_eval.specs.Begun.{IsRowOf}
use Rattle.nego_eval.proofs.Keeping.{same_place, place_below, each_kept}
use Rattle.nego_eval.proofs.Places.{keep-fewer_open}
use Rattle.nego_eval.proofs.rows.Rows.keep.Goals as goal

pub returns-clause-rows : goal.returns-clause-rows
returns-clause-rows c =
    let old = c.args.self.now in
    let pair = c.args.pair in
    let nodes = length old.nodes.now.nodes in
    let place = pair.node.0 * old.joint + pair.start in
    then_ok c.keep.result (c.keep.new.self ≡ set old.kept c.place-place.result (Some c.args.row)) (AreRows (record { diagram = old.diagram; nodes = old.nodes; joint = old.joint; tables = old.tables; kept = c.keep.new.self }))
    (λ after.
    let kept : c.keep.new.self ≡ set old.kept place (Some c.args.row) = after ∙ ap (λ n. set old.kept n (Some c.args.row)) c.place-place.ensures in
    record {
      nodes = c.requires.rows.nodes;
      bases = c.requires.rows.bases;
      joint = c.requires.rows.joint;
      few = c.requires.rows.few;
      tables = c.requires.rows.tables;
      places = ap length kept ∙ length-set old.kept place (Some c.args.row) ∙ c.requires.rows.places;
      each = λ other row there found.
          each_kept (λ i x r. IsRowOf (meaning old i) old.joint x r) nodes old.joint old.kept pair.node.0 pair.start c.args.row c.requires.rows.places c.requires.there.node c.requires.there.start c.requires.row
          other.node.0 other.start row there.start (λ k. c.requires.rows.each other row (record { node = there.node; start = there.start }) k) (ap (λ ks. slice_index_or ks (other.node.0 * old.joint + other.start) None) (sym kept) ∙ found);
    })
    c.keep.ensures

pub returns-clause-fewer : goal.returns-clause-fewer
returns-clause-fewer c =
    let old = c.args.self.now in
    let pair = c.args.pair in
    let place = pair.node.0 * old.joint + pair.start in
    let here : place < length old.kept = rw c.requires.rows.places (place_below (length old.nodes.now.nodes) old.joint pair.node.0 pair.start c.requires.there.node c.requires.there.start) in
    then_ok c.keep.result (c.keep.new.self ≡ set old.kept c.place-place.result (Some c.args.row)) (open_places c.keep.new.self < open_places old.kept)
    (λ after.
    let kept : c.keep.new.self ≡ set old.kept place (Some c.args.row) = after ∙ ap (λ n. set old.kept n (Some c.args.row)) c.place-place.ensures in
    rw kept (keep-fewer_open old.kept place c.args.row here c.requires.vacant))
    c.keep.ensures

pub returns-clause-only : goal.returns-clause-only
returns-clause-only c =
    let old = c.args.self.now in
    let pair = c.args.pair in
    let place = pair.node.0 * old.joint + pair.start in
    let P : ℕ → ℕ → Pair = λ n x. record { node = record { 0 = n }; start = x } in
    then_ok c.keep.result (c.keep.new.self ≡ set old.kept c.place-place.result (Some c.args.row)) ((other : Pair) → IsPair old other → IsSome (kept_row (record old { kept = c.keep.new.self }) other) → IsSome (kept_row old other) ⊎ (other ≡ pair))
    (λ after other there found.
    let kept : c.keep.new.self ≡ set old.kept place (Some c.args.row) = after ∙ ap (λ n. set old.kept n (Some c.args.row)) c.place-place.ensures in
    let at = other.node.0 * old.joint + other.start in
    elim (cases_eq at place) [
      | inl same ↦ let e = same_place old.joint other.node.0 other.start pair.node.0 pair.start there.start c.requires.there.start same in inr (ap₂ P e.0 e.1)
      | inr differ ↦ inl (subst IsSome (ap (λ ks. slice_index_or ks at None) kept ∙ get_or-set_other old.kept place at (Some c.args.row) None differ) found)
    ])
    c.keep.ensures
