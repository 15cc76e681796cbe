use Rattle.std.proofs.Common.{ap₂, ◌∙◌, rules}
use Rattle.nego_eval.specs.Kept.{rows_by_place}
use Rattle.nego_eval.proofs.Places.{none_by_place}
use Rattle.nego_eval.proofs.kept.KeptRows.none.Goals as goal

pub returns : goal.returns
returns c = ap₂ rows_by_place c.new-rows.ensures (c.in_ok-places.ensures.items_if_clones_equal (λ y h. search rules)) ∙ none_by_place c.args.places
