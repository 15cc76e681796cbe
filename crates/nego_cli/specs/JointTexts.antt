-- The texts of joint data, each made when it is first wanted.
use Rattle.std.specs.Prelude.{◌≡◌, ℕ, ◌<◌, List, [], length, slice_get, Some}
use Rattle.nego_data.specs.Data.{data_count, split}
use Rattle.nego_cli.specs.Refusals.{value_words}

-- There is a text for each joint data, which is empty or the values of the agents, each behind a blank.
pub record AreJointTexts (sizes : List ℕ) (texts : List (List ℕ)) : Type 0 where
  pub long : length texts ≡ data_count sizes
  pub each : (d : ℕ) (text : List ℕ) → slice_get texts d ≡ Some text → 0 < length text → text ≡ value_words (split sizes d) []
