-- Joint data to which assignments were applied.
use Rattle.std.specs.Prelude.{◌≡◌, ℕ, ◌<◌, true, List}
use Rattle.nego_data.specs.declared.cases.Set.{Set}
use Rattle.nego_data.specs.declared.applied.Applied.{Applied}
use Rattle.nego_data.specs.BitRows.{is_set}
use Rattle.nego_data.specs.Cases.{agents_follow}
use Rattle.nego_data.specs.Data.{data_count, split}
use Rattle.nego_data.specs.Tables.{is_related}

-- The table relates each of the data in the set to all joint data that follow the assignments.
abbrev pub IsAppliedTo : List ℕ → List (List ℕ) → List Set → List ℕ → Type 0
IsAppliedTo sizes table sets those =
    (d e : ℕ) → d < data_count sizes → e < data_count sizes → is_set those d ≡ true → agents_follow 0 sizes sets (split sizes d) (split sizes e) ≡ true → is_related table d e ≡ true

-- What is kept of a list of assignments is so.
abbrev pub IsApplied : List ℕ → List (List ℕ) → Applied → Type 0
IsApplied sizes table applied = IsAppliedTo sizes table applied.case.now.sets applied.those.words
