-- Rows that are made on demand, and those in the making that wait.
use Rattle.std.specs.Prelude.{List, All, IsSome}
use Rattle.nego_eval.specs.Asked.{IsAsked}
use Rattle.nego_eval.specs.Frames.{AreRows, IsPair, IsFrame, kept_row, meaning}
use Rattle.nego_eval.specs.declared.rows.Rows.{Rows}
use Rattle.nego_eval.specs.declared.rows.Pair.{Pair}
use Rattle.nego_eval.specs.declared.making.Making.{Making}

-- The rows that are kept are those of their pairs, and those that wait are in the making.
pub record AreMaking (making : Making) : Type 0 where
  pub rows : AreRows making.rows
  pub waiting : All (IsFrame making.rows) making.waiting

-- The row of the pair is asked for by those of the roots.
abbrev pub IsAskedOf : Rows → List Pair → Pair → Type 0
IsAskedOf rows roots pair = IsAsked (meaning rows) rows.nodes.now.nodes roots pair

-- Each row that is kept, and each in the making, is asked for by those of the roots.
pub record AreAsked (roots : List Pair) (making : Making) : Type 0 where
  pub kept : (pair : Pair) → IsPair making.rows pair → IsSome (kept_row making.rows pair) → IsAskedOf making.rows roots pair
  pub waiting : All (λ frame. IsAskedOf making.rows roots frame.pair) making.waiting
