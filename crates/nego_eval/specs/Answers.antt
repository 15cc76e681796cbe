-- What a summary answers on a diagram: to which joint data its final outcomes relate a start.
use Rattle.std.specs.Prelude.{◌≡◌, ◌↔◌, ◌⊎◌, ℕ, ◌<◌, List, slice_get, All, AllPairs, Contains, MatchOption}
use Rattle.nego_model.specs.Joining.{RelationTest, By}
use Rattle.nego_model.specs.Expression.{Means}
use Rattle.nego_model.specs.Summary.{PlainSummary}

-- There is a final outcome at the place, and its node relates the start to e.
abbrev pub IsAnswer : RelationTest → PlainSummary → ℕ → ℕ → ℕ → Type 0
IsAnswer test summary start place e = MatchOption (slice_get summary.finals place) ⊥ (λ outcome. Means (By test) summary.nodes outcome.node start e)

-- One pair comes before another: its place is less, or they have one place and its joint data are less.
abbrev pub ComesBefore : ℕ × ℕ → ℕ × ℕ → Type 0
ComesBefore pair later = (pair.0 < later.0) ⊎ ((pair.0 ≡ later.0) × (pair.1 < later.1))

-- The list has exactly the pairs of a place and joint data that are answers, and each pair comes before those behind it.
pub record AreAnswers (test : RelationTest) (summary : PlainSummary) (start : ℕ) (answers : List (ℕ × ℕ)) : Type 0 where
  pub each : (place e : ℕ) → Contains answers (place, e) ↔ IsAnswer test summary start place e
  pub rise : AllPairs ComesBefore answers

-- The same of the final outcomes at the first places alone.
pub record AreAnswersBelow (test : RelationTest) (summary : PlainSummary) (start places : ℕ) (answers : List (ℕ × ℕ)) : Type 0 where
  pub each : (place e : ℕ) → Contains answers (place, e) ↔ ((place < places) × IsAnswer test summary start place e)
  pub before : All (λ pair. pair.0 < places) answers
  pub rise : AllPairs ComesBefore answers
