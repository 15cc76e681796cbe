-- Rows as sets of joint data: those that are whole, and those in the making.
use Rattle.std.specs.Prelude.{◌↔◌, ℕ, ◌<◌, List, IsTrue}
use Rattle.nego_base.specs.Members.{is_in}

-- The row has exactly what the relation relates to x, which is below the count of joint data.
pub record IsRowOf (whole : ℕ → ℕ → Type 0) (count x : ℕ) (row : List ℕ) : Type 0 where
  pub exact : (e : ℕ) → IsTrue (is_in e row) ↔ whole x e
  pub below : (e : ℕ) → IsTrue (is_in e row) → e < count

-- A row in the making: what it has met so far the whole relates to x, and of each number that was followed it has met all
-- that the next step relates to it.
pub record IsBegun (whole next : ℕ → ℕ → Type 0) (count x : ℕ) (met followed : List ℕ) : Type 0 where
  pub sound : (e : ℕ) → IsTrue (is_in e met) → whole x e
  pub below : (e : ℕ) → IsTrue (is_in e met) → e < count
  pub all : (y e : ℕ) → IsTrue (is_in y followed) → next y e → IsTrue (is_in e met)
