-- The law of merging.
use Rattle.std.specs.Prelude.{ℕ}
use Rattle.nego_expr.specs.Use.{Merge}
use Rattle.nego_expr.specs.Keeps.{IsKeeping}

-- Merges that a work allows keep.
abbrev pub MergingKeeps : Type 0
MergingKeeps = (o1 o2 : ℕ) → IsKeeping (Merge o1 o2)
