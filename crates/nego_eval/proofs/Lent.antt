-- Laws of the tables of all outcomes.
use Rattle.std.proofs.Common.{◌≡◌, ℕ, ◌<◌, List, length, map, slice_get, Some, sym, ap, ◌∙◌, arith}
use Rattle.std.specs.List.{range_with_len}
use Rattle.std.proofs.lemmas.Option.{get_or_from_slice_get}
use Rattle.std.proofs.lemmas.List.FromFn.{get_or-map-range_with_len, length-map-range_with_len}
use Rattle.nego_model.specs.Diagram.{PlainDiagram, outcome_table}

-- there is a table for each outcome
pub tables-length : (diagram : PlainDiagram) (tables : List (List (List ℕ))) → tables ≡ map (outcome_table diagram) (range_with_len 0 (length diagram.outcomes)) → length tables ≡ length diagram.outcomes
tables-length diagram tables are = ap length are ∙ length-map-range_with_len (outcome_table diagram) 0 (length diagram.outcomes)

-- the table at the place of an outcome is the outcome's
pub table_at : (diagram : PlainDiagram) (tables : List (List (List ℕ))) (o : ℕ) (table : List (List ℕ)) → tables ≡ map (outcome_table diagram) (range_with_len 0 (length diagram.outcomes)) → o < length diagram.outcomes →
    slice_get tables o ≡ Some table → table ≡ outcome_table diagram o
table_at diagram tables o table are h here =
    sym (get_or_from_slice_get tables o table table here) ∙ rw are (get_or-map-range_with_len (outcome_table diagram) 0 (length diagram.outcomes) o o table h (omega arith))
