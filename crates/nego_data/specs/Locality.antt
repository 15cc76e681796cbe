-- What a relation reads and changes of joint data.
use Rattle.std.specs.Prelude.{◌≡◌, ℕ, ◌<◌, List, length, slice_index, IsTrue}
use Rattle.nego_base.specs.Members.{is_in}
use Rattle.nego_data.specs.Data.{data_count, split}
use Rattle.nego_data.specs.Places.{owner_of}

-- These agents have the same values in both.
abbrev pub AgreeOn : List ℕ → List ℕ → ℕ → ℕ → Type 0
AgreeOn sizes agents d e = (k : ℕ) → k < length sizes → IsTrue (is_in (owner_of k) agents) → slice_index (split sizes d) k ≡ slice_index (split sizes e) k

-- All other agents have the same values in both.
abbrev pub AgreeOff : List ℕ → List ℕ → ℕ → ℕ → Type 0
AgreeOff sizes agents d e = (k : ℕ) → k < length sizes → ¬ IsTrue (is_in (owner_of k) agents) → slice_index (split sizes d) k ≡ slice_index (split sizes e) k

-- The relation leads from joint data to joint data, and reads and changes the values of these agents alone.
pub record ActsOn (sizes agents : List ℕ) (related : ℕ → ℕ → Type 0) : Type 0 where
  pub stays : (d e : ℕ) → d < data_count sizes → related d e → e < data_count sizes
  pub changes : (d e : ℕ) → d < data_count sizes → related d e → AgreeOff sizes agents d e
  pub reads : (d e d' e' : ℕ) → d < data_count sizes → related d e → d' < data_count sizes → e' < data_count sizes →
      AgreeOn sizes agents d d' → AgreeOn sizes agents e e' → AgreeOff sizes agents d' e' → related d' e'
